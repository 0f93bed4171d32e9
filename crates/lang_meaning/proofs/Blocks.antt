-- The head of a block, and what remains of the block after it.
use Rattle.std.proofs.Common.{ℕ, List, ◌≡◌, ap, ◌∙◌, sym, subst, Result, Ok, Err}
use Rattle.std.specs.Prelude.{OnErr}
use Rattle.rt_values.specs.Maps.{Map}
use Rattle.rt_groups.specs.GroupForest.{GroupForest}
use Rattle.rt_groups.specs.declared.groups.Group.{Group as Listed}
use Rattle.lang_ast.specs.Terms.{Head}
use Rattle.lang_ast.specs.Evaluation.{Bindings}
use Rattle.lang_meaning.specs.declared.composition.Entered.{Entered}
use Rattle.lang_meaning.specs.declared.composition.Progress.{Progress}
use Rattle.lang_meaning.specs.declared.composition.ScratchStop.{ScratchStop}
use Rattle.lang_meaning.specs.declared.composition.ScratchStop.TheVariants.{TooManyGroups}
use Rattle.lang_meaning.specs.ComposesForest.{ComposesForest}
use Rattle.lang_meaning.specs.EntersBlock.{Remains, EntersBlock}

-- The contract for an equal head.
pub enters_as : {W : Type 0} {shown : W → Map → Type 0} {asked : W → List ℕ} {kept : W → W → Type 0} {depth site : ℕ}
    {view view' : W} {made made' : Progress} {result : Result Entered ScratchStop} (h k : Head) → h ≡ k
    → EntersBlock shown asked kept depth site k view view' made made' result
    → EntersBlock shown asked kept depth site h view view' made made' result
enters_as {shown = shown} {asked = asked} {kept = kept} {depth = depth} {site = site} {view = view} {view' = view'} {made = made} {made' = made'} {result = result} h k e c =
    subst (λ (x : Head). EntersBlock shown asked kept depth site x view view' made made' result) (sym e) c

-- What remains after an equal way to enter the block.
pub remains_as : {depth : ℕ} {t : GroupForest} {go : Bindings → GroupForest} {env : Bindings} {out mid : List Listed}
    {asked asked1 mine mine1 : List ℕ} (e f : Entered) → e ≡ f
    → Remains depth t go env out mid asked asked1 mine mine1 e
    → Remains depth t go env out mid asked asked1 mine mine1 f
remains_as {depth = depth} {t = t} {go = go} {env = env} {out = out} {mid = mid} {asked = asked} {asked1 = asked1} {mine = mine} {mine1 = mine1} e f is r =
    subst (λ (x : Entered). Remains depth t go env out mid asked asked1 mine mine1 x) is r

-- A fact without conditions is a fact about errors.
pub on_err : {U A : Type 0} (result : Result U ScratchStop) → A → OnErr result A
on_err (Ok u) a = tt
on_err (Err x) a = a

-- An error of the head is one of the block.
pub ran_failed : {U V : Type 0} (d : ℕ) (t : GroupForest) (out out' : List Listed) (asked asked' mine mine' : List ℕ)
    (x : ScratchStop) (result : Result V ScratchStop) → result ≡ Err x
    → ComposesForest d t out out' asked asked' mine mine' {U = U} (Err x)
    → ComposesForest d t out out' asked asked' mine mine' result
ran_failed d t out out' asked asked' mine mine' x (Ok u) is h = cc
ran_failed d t out out' asked asked' mine mine' x (Err z) is h = record {
  made = tt;
  came = tt;
  charged = tt;
  part = h.part;
  many = λ y.
      let y0 : z ≡ x = cc in
      let y1 : z ≡ TooManyGroups = cc in
      h.many (ap (λ (w : ScratchStop). Err w) (sym y0 ∙ y1));
}
