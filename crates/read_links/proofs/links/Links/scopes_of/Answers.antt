use Rattle.std.proofs.Common.{[], ap, ◌∙◌}
use Rattle.std.specs.Option.{option_map_or}
use Rattle.read_links.specs.LinkLists.{scopes_in}
use Rattle.read_links.proofs.Entries.{found_scopes}
use Rattle.read_links.proofs.links.Links.scopes_of.Goals as goal

pub returns-in-Some : goal.returns-in-Some
returns-in-Some c =
    c.deref.ensures.value
    ∙ ap (λ o. option_map_or (λ v. v.items) o []) c.in-Some.ensures.value
    ∙ found_scopes (λ v. v.items) c.args.object c.self.inside.objects.entries
    ∙ ap (λ l. scopes_in c.args.object l.links) c.self.view_is

pub returns-in-None : goal.returns-in-None
returns-in-None c =
    ap (λ o. option_map_or (λ v. v.items) o []) c.in-None.ensures.value
    ∙ found_scopes (λ v. v.items) c.args.object c.self.inside.objects.entries
    ∙ ap (λ l. scopes_in c.args.object l.links) c.self.view_is
