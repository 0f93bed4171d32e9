-- The calls of one caller, and the parts of one actor.
use Rattle.std.proofs.Common.{◌≡◌, ◌≢◌, ℕ, ◌==◌, Bool, true, false, List, [], ◌∷◌, ◌++◌, map, refl, sym, ap, ◌∙◌, cond, Option, Some, None, inl, inr, arith}
use Rattle.std.proofs.lemmas.Bool.{cases_lt, eqb-true}
use Rattle.std.proofs.lemmas.Bool.Decides.{eqb_tells}
use Rattle.snap_policy.specs.declared.policy.BuiltIn.{BuiltIn}
use Rattle.snap_policy.specs.Table.{table}
use Rattle.snap_api.specs.declared.data.Entry.{Entry}
use Rattle.snap_api.specs.declared.data.Reply.{Reply}
use Rattle.snap_api.specs.declared.data.Request.{Request}
use Rattle.snap_api.specs.World.{World, History, call}
use Rattle.snap_shared.specs.SharedCalls.{own_calls, HasOnlyCallersBelow}
use Rattle.snap_shared.proofs.OwnCalls.{itself}
use Rattle.snap_shared.proofs.Prefixes.{calls_by-append}
use Rattle.lang_script.specs.Scripts.{index_of, written_out}
use Rattle.lang_script.specs.StepCalls.{Notes, Part, ActorPart, of_actor, steps_parts, script_parts, request_of, notes_after, entry, sequential}
use Rattle.play_laws.specs.Woven.{actor_of, parts_of_actor, AreOf, actor_parts}
use Rattle.play_laws.specs.FirstParts.{state_given}
use Rattle.play_laws.specs.Laws.{PartsAreOfScript}
use Rattle.play_laws.proofs.Steps.{state_at_part, state_after_reply}

pub differs : (a b : ℕ) → a ≢ b → (a == b) ≡ false
differs a b ne = elim (eqb_tells a b) [ inl h ↦ absurd (ne h.1) | inr h ↦ h.0 ]

pub own_calls-first : (e : Entry) (es : History) → own_calls e.caller (e ∷ es) ≡ e ∷ own_calls e.caller es
own_calls-first e es = ap (λ b. cond b (e ∷ own_calls e.caller es) (own_calls e.caller es)) (itself e.caller)

pub own_calls-skip : (e : Entry) (es : History) (a : ℕ) → e.caller ≢ a → own_calls a (e ∷ es) ≡ own_calls a es
own_calls-skip e es a ne = ap (λ b. cond b (e ∷ own_calls a es) (own_calls a es)) (differs e.caller a ne)

-- All calls are of one caller.
abbrev pub AreBy : ℕ → History → Type 0
AreBy a [] = Unit {0}
AreBy a (e ∷ es) = (e.caller ≡ a) × AreBy a es

pub own_calls-mine : (a : ℕ) (h : History) → AreBy a h → own_calls a h ≡ h
own_calls-mine a [] m = refl
own_calls-mine a (e ∷ es) m = ap (λ b. cond b (e ∷ own_calls a es) (own_calls a es))
    (ap (λ (x : ℕ). x == a) m.0 ∙ itself a) ∙ ap (λ l. e ∷ l) (own_calls-mine a es m.1)

pub own_calls-others : (a b : ℕ) (h : History) → a ≢ b → AreBy a h → own_calls b h ≡ []
own_calls-others a b [] ne m = refl
own_calls-others a b (e ∷ es) ne m = ap (λ c. cond c (e ∷ own_calls b es) (own_calls b es))
    (ap (λ (x : ℕ). x == b) m.0 ∙ differs a b ne) ∙ own_calls-others a b es ne m.1

-- If caller 0 is the only one, all calls are its.
pub are_by_first : (h : History) → HasOnlyCallersBelow 1 h → AreBy 0 h
are_by_first [] others = tt
are_by_first (e ∷ es) others = elim (cases_lt e.caller 1) [
  | inl under ↦
      let first : e.caller ≡ 0 = omega (arith, under) in
      (first, are_by_first es (λ k far. sym (own_calls-skip e es k (λ q. omega (arith, first, far, q))) ∙ others k far))
  | inr far ↦ let none : e ∷ own_calls e.caller es ≡ [] = sym (own_calls-first e es) ∙ others e.caller far in absurd cc
]

pub parts_of-mine : (a : ℕ) (parts : List ActorPart) → AreOf a parts → parts_of_actor a parts ≡ parts
parts_of-mine a [] m = refl
parts_of-mine a (p ∷ ps) m = ap (λ b. cond b (p ∷ parts_of_actor a ps) (parts_of_actor a ps))
    (ap (λ (x : ℕ). x == a) m.0 ∙ itself a) ∙ ap (λ l. p ∷ l) (parts_of-mine a ps m.1)

pub parts_are_of : (a : ℕ) (parts : List ActorPart) → AreOf a (parts_of_actor a parts)
parts_are_of a [] = tt
parts_are_of a (p ∷ ps) = by (p.actor == a) refl (parts_are_of a ps) where
  by : (b : Bool) → (p.actor == a) ≡ b → AreOf a (parts_of_actor a ps) → AreOf a (cond b (p ∷ parts_of_actor a ps) (parts_of_actor a ps))
  by true e rest = (eqb-true p.actor a e, rest)
  by false e rest = rest

-- The parts of one actor's steps are all its own, or none of another's.
of_one : (a b : ℕ) (ps : List Part) → parts_of_actor a (map (of_actor b) ps) ≡ cond (b == a) (map (of_actor a) ps) []
of_one a b ps = by (b == a) refl ps where
  by : (same : Bool) → (b == a) ≡ same → (ps : List Part)
      → parts_of_actor a (map (of_actor b) ps) ≡ cond same (map (of_actor a) ps) []
  by true e [] = refl
  by true e (p ∷ ps) =
      ap (λ c. cond c (of_actor b p ∷ parts_of_actor a (map (of_actor b) ps)) (parts_of_actor a (map (of_actor b) ps))) e
      ∙ (λ i. of_actor (eqb-true b a e i) p ∷ by true e ps i)
  by false e [] = refl
  by false e (p ∷ ps) = ap (λ c. cond c (of_actor b p ∷ parts_of_actor a (map (of_actor b) ps))
      (parts_of_actor a (map (of_actor b) ps))) e ∙ by false e ps

pub parts_are_of_script : PartsAreOfScript
parts_are_of_script a actors [] = refl
parts_are_of_script a actors (d ∷ more) =
    let ps = steps_parts (written_out d.steps) in
    let b = index_of d.actor.text actors in
    calls_by-append actor_of a (map (of_actor b) ps) (script_parts actors more)
    ∙ (λ i. of_one a b ps i ++ parts_are_of_script a actors more i)
    ∙ into (b == a) (map (of_actor a) ps) (actor_parts a actors more) where
      into : (c : Bool) (xs ys : List ActorPart) → cond c xs [] ++ ys ≡ cond c (xs ++ ys) ys
      into true xs ys = refl
      into false xs ys = refl

pub left_is_of : (a : ℕ) (n : Notes) (parts : List ActorPart) (rs : List Reply) → AreOf a parts
    → AreOf a (state_given n parts rs).left
left_is_of a n [] rs m = tt
left_is_of a n (p ∷ ps) [] m = by (request_of n p.part) (left_is_of a n ps [] m.1) where
  by : (o : Option Request) → AreOf a (state_given n ps []).left → AreOf a (state_at_part n p ps o).left
  by None rest = rest
  by (Some q) rest = m
left_is_of a n (p ∷ ps) (r ∷ rs) m =
    by (request_of n p.part) (left_is_of a n ps (r ∷ rs) m.1) (λ k. left_is_of a k ps rs m.1) where
      by : (o : Option Request) → AreOf a (state_given n ps (r ∷ rs)).left
          → ((k : Notes) → AreOf a (state_given k ps rs).left) →
          AreOf a (state_after_reply n p ps r rs o).left
      by None same rest = same
      by (Some q) same rest = rest (notes_after n p.part r)

pub sequential_is_by : (a : ℕ) (w : World BuiltIn) (n : Notes) (parts : List ActorPart) → AreOf a parts
    → AreBy a (sequential w n parts)
sequential_is_by a w n [] m = tt
sequential_is_by a w n (p ∷ ps) m = by (request_of n p.part) (λ v k. sequential_is_by a v k ps m.1) where
  by : (o : Option Request) → ((v : World BuiltIn) (k : Notes) → AreBy a (sequential v k ps)) →
      AreBy a (elim o [
        | None ↦ sequential w n ps
        | Some q ↦ entry w p.actor q ∷ sequential (call table w p.actor q).0 (notes_after n p.part
            (call table w p.actor q).1) ps
      ])
  by None rest = rest w n
  by (Some q) rest = (m.0, rest (call table w p.actor q).0 (notes_after n p.part (call table w p.actor q).1))
