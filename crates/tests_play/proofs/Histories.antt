-- Histories whose lines are written from their calls and replies.
use Rattle.std.proofs.Common.{◌≡◌, ℕ, List, [], ◌∷◌, Option, Some, refl, sym, ap, ◌∙◌, subst}
use Rattle.std.specs.Option.{option_map, unwrap_or}
use Rattle.snap_policy.specs.Rules.{Rules}
use Rattle.snap_api.specs.declared.data.Entry.{Entry}
use Rattle.snap_api.specs.declared.data.Reply.{Reply}
use Rattle.snap_api.specs.declared.data.Request.{Request}
use Rattle.snap_api.specs.CallLists.{WereMade, LogGrew, entries_of, replies_to}
use Rattle.snap_api.specs.World.{World, IsLegal, call}
use Rattle.play_laws.specs.FramesInTurn.{OpenFrame}

-- A caller and a snapshot as an open frame.
abbrev pub seen : Option (ℕ × ℕ) → Option OpenFrame
seen frame = option_map (λ f. record { caller = f.0; name = f.1 }) frame

-- Calls with the replies to them are legal.
legal_entries : {P : Type 0} (rules : Rules P) (w : World P) (cs : List (ℕ × Request))
    → IsLegal rules w (entries_of cs (replies_to rules w cs))
legal_entries rules w [] = tt
legal_entries rules w (c ∷ cs) = (refl, legal_entries rules (call rules w c.0 c.1).0 cs)

-- The log of calls that were made is legal.
pub made_legal : {P : Type 0} {rules : Rules P} {stands stands' : World P → Type 0} {old new : Option (List Entry)}
    {cs : List (ℕ × Request)} {rs : List Reply} {items : List Entry} (w : World P)
    → WereMade rules stands stands' old new cs rs → old ≡ Some [] → new ≡ Some items → stands w → IsLegal rules w items
made_legal {rules = rules} {new = new} {cs = cs} {rs = rs} {items = items} w made began left at =
    let logged : new ≡ Some (entries_of cs rs) = subst (λ o. LogGrew o new (entries_of cs rs)) began made.logged in
    let same : items ≡ entries_of cs rs = ap (λ o. unwrap_or o items) (sym left ∙ logged) in
    subst (IsLegal rules w) (sym (same ∙ ap (entries_of cs) (made.answers w at))) (legal_entries rules w cs)
