use Rattle.std.proofs.Common.{◌≡◌, ◌∙◌, refl, ap, IsOk, Option, None}
use Rattle.composer.specs.FrameDrafts.{DraftGroups}
use Rattle.recomposer.specs.Composed.{IsComposed, IsForHeld}
use Rattle.recomposer.proofs.Logs.{always_disposed}
use Rattle.recomposer.proofs.ShownFrames.{asks_then, logs_end}
use Rattle.recomposer.proofs.Stops.{if_good, if_then}
use Rattle.recomposer.proofs.composition.Composition.compose_and_dispose.Goals as goal

pub returns-clause-made : goal.returns-clause-made
returns-clause-made g c k m h shows =
    if_then (IsOk c.dispose-disposed.result) (IsComposed c.args.self.now k m) c.compose_owed-composed.result
    c.composed_frame.result c.composed_frame.ensures.good (c.compose_owed-composed.ensures.made k m h shows)

pub returns-clause-stops : goal.returns-clause-stops
returns-clause-stops g c = record {
  many = λ k m h shows stop.
      c.compose_owed-composed.ensures.many k m h shows (c.composed_frame.ensures.many stop);
  not_spent = c.composed_frame.ensures.not_spent;
  no_fault = c.composed_frame.ensures.no_fault;
}

pub returns-clause-olds : goal.returns-clause-olds
returns-clause-olds g c =
    if_then (IsOk c.dispose-disposed.result) (IsForHeld c.args.self.now) c.compose_owed-composed.result
    c.composed_frame.result c.composed_frame.ensures.good c.compose_owed-composed.ensures.olds

pub returns-clause-reads : goal.returns-clause-reads
returns-clause-reads g c =
    asks_then c.args.self.now (g.D.View.shows c.args.desk.now) (g.D.View.asked c.args.desk.now)
    (g.D.View.asked c.compose_owed-composed.new.view) (IsOk c.dispose-disposed.result)
    (g.D.View.asked c.dispose-disposed.new.self) c.compose_owed-composed.result c.composed_frame.result
    c.dispose-disposed.ensures.asks c.composed_frame.ensures.good c.compose_owed-composed.ensures.reads

pub returns-clause-idle : goal.returns-clause-idle
returns-clause-idle g c h =
    let idle = c.compose_owed-composed.ensures.idle h in (
      if_then (IsOk c.dispose-disposed.result) (λ (d : Option DraftGroups). d ≡ None)
          c.compose_owed-composed.result c.composed_frame.result c.composed_frame.ensures.good
          (if_good (λ (d : Option DraftGroups). d ≡ None) c.compose_owed-composed.result None idle.0 refl),
      c.dispose-disposed.ensures.asks ∙ ap (λ d. g.D.View.asked d) idle.1,
      idle.2,
    )

pub returns-clause-world : goal.returns-clause-world
returns-clause-world g c m shows inner w behind =
    let kept = c.compose_owed-composed.ensures.keeps in
    let opened = g.met.D.Desk.opened_kept _ _ kept ∙ c.requires.opened in
    always_disposed g.D.P.Policy.rules (g.D.Desk.behind c.args.desk.now)
    (g.D.Desk.behind c.compose_owed-composed.new.view) (g.D.Desk.behind c.dispose-disposed.new.self)
    (g.D.Desk.caller c.args.desk.now) (g.D.Desk.caller c.compose_owed-composed.new.view) c.args.begun.name
    c.dispose-disposed.result
    (λ v. g.met.D.Desk.behind_kept _ _ v kept) (g.met.D.Desk.caller_kept _ _ kept)
    (c.dispose-disposed.ensures.disposed m c.args.begun.name (c.compose_owed-composed.ensures.same m shows) opened inner)
    (c.dispose-disposed.ensures.call c.args.begun.name opened) w behind

pub returns-clause-log : goal.returns-clause-log
returns-clause-log g c =
    let kept = c.compose_owed-composed.ensures.keeps in
    let opened = g.met.D.Desk.opened_kept _ _ kept ∙ c.requires.opened in
    logs_end c.args.self.now (g.D.View.shows c.args.desk.now) (g.D.Desk.log c.args.desk.now)
    (g.D.Desk.log c.compose_owed-composed.new.view) (g.D.Desk.log c.dispose-disposed.new.self)
    (g.D.View.asked c.args.desk.now) (g.D.View.asked c.compose_owed-composed.new.view)
    (g.D.View.asked c.dispose-disposed.new.self)
    (g.D.Desk.caller c.args.desk.now) (g.D.Desk.caller c.compose_owed-composed.new.view) c.args.begun.name
    (g.D.Desk.opened c.args.desk.now) c.compose_owed-composed.result c.dispose-disposed.result
    (g.met.D.Desk.reads_told _ _ kept) c.requires.opened c.dispose-disposed.ensures.asks
    (g.met.D.Desk.caller_kept _ _ kept) c.compose_owed-composed.ensures.reads
    (c.dispose-disposed.ensures.log c.args.begun.name opened)
    (λ m shows inner. c.dispose-disposed.ensures.disposed m c.args.begun.name
    (c.compose_owed-composed.ensures.same m shows) opened inner)
    c.composed_frame.result c.composed_frame.ensures.good c.composed_frame.ensures.no_fault

pub returns-clause-desk : goal.returns-clause-desk
returns-clause-desk g c =
    let kept = c.compose_owed-composed.ensures.keeps in
    record {
      same = record {
        lends = g.met.D.Desk.lends_on _ _ _ (g.met.D.Desk.lends_kept _ _ kept) c.dispose-disposed.ensures.lends;
        alone = λ n free. g.met.D.Desk.alone_before _ _ n kept (c.dispose-disposed.ensures.alone n free);
        caller = c.dispose-disposed.ensures.caller ∙ g.met.D.Desk.caller_kept _ _ kept;
      };
      last = λ n types l last free.
          c.dispose-disposed.ensures.last n types l (g.met.D.Desk.last_kept _ _ n types l kept
          (c.dispose-disposed.ensures.alone n free) last) free;
    }
