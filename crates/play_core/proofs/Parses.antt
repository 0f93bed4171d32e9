-- The tree parser, as its machine, parses all bytes or stops at them.
use Rattle.std.proofs.Common.{arith, subst, ◌≡◌, ◌≢◌, ◌⊎◌, inl, inr, ◌≤◌, ◌<◌, ◌+◌, ◌==◌, nat_le, ℕ, zero, suc, List, [], ◌∷◌, Option, Some, None, refl, ◌∙◌, length, get_or}
use Rattle.std.specs.Prelude.{IfSome}
use Rattle.std.proofs.lemmas.Bool.Decides.{eqb_tells}
use Rattle.sexp_text.specs.Forest.{Forest, empty, atom, joined_trees, list_nesting}
use Rattle.sexp_text.specs.Grammar.{is_blank, is_atom_byte}
use Rattle.sexp_text.specs.Machine.{Mode, gap, in_comment, in_word, in_text, in_escape, OpenLists, State, close_list, start, step, next, forest_at_end, first_state, state_at, whole, IsShallow, Refuses}
use Rattle.sexp_text.specs.declared.stop.TextStop.{TextStop}
use Rattle.sexp_text.specs.declared.stop.TextStop.TheVariants as stop
use Rattle.sexp_text.proofs.Walks.{walk_on, tested, length_le-depth_reached, next_deepens, finish_reaches, whole_is, stops_refuses}
use Rattle.rt_values.proofs.TextPrefixes.{le_or_gt as le_or_lt}

-- Only a parenthesis opens a list.
Opens : ℕ → OpenLists → State → Type 0
Opens b os t = (b ≡ 40) ⊎ (length t.1 ≤ length os)

closed-opens : (b : ℕ) (os : OpenLists) (f : Forest) → IfSome (close_list os f) (Opens b os)
unfolding Opens
closed-opens b [] f = tt
closed-opens b (o ∷ os) f = inr (omega arith)

same-opens : (b : ℕ) (os : OpenLists) → (b ≡ 40) ⊎ (length os ≤ length os)
same-opens b os = inr (omega arith)

start-opens : (at b : ℕ) (os : OpenLists) (f : Forest) → IfSome (start at b os f) (Opens b os)
unfolding Opens
start-opens at b os f =
    let P = (λ (o : Option State). IfSome o (Opens b os)) in
    tested P (is_blank b) _ _ (λ _. same-opens b os)
    (λ _. tested P (b == 59) _ _ (λ _. same-opens b os)
    (λ _. tested P (b == 40) _ _ (λ is. elim (eqb_tells b 40) [ inl e ↦ inl e.1 | inr e ↦ absurd cc ])
    (λ _. tested P (b == 41) _ _ (λ _. closed-opens b os f)
    (λ _. tested P (b == 34) _ _ (λ _. same-opens b os)
    (λ _. tested P (is_atom_byte b) _ _ (λ _. same-opens b os) (λ _. tt))))))

step-opens : (m : Mode) (os : OpenLists) (f : Forest) (at b : ℕ) → IfSome (step m os f at b) (Opens b os)
unfolding Opens
step-opens gap os f at b = start-opens at b os f
step-opens in_comment os f at b = same-opens b os
step-opens (in_word from name) os f at b =
    tested (λ (o : Option State). IfSome o (Opens b os)) (is_atom_byte b) _ _ (λ _. same-opens b os)
    (λ _. start-opens at b os (joined_trees f (atom from name empty)))
step-opens (in_text from chars) os f at b =
    let P = (λ (o : Option State). IfSome o (Opens b os)) in
    tested P (b == 34) _ _ (λ _. same-opens b os)
    (λ _. tested P (b == 92) _ _ (λ _. same-opens b os)
    (λ _. tested P (nat_le 32 b) _ _ (λ _. same-opens b os) (λ _. tt)))
step-opens (in_escape from chars) os f at b =
    let P = (λ (o : Option State). IfSome o (Opens b os)) in
    tested P (b == 34) _ _ (λ _. same-opens b os)
    (λ _. tested P (b == 92) _ _ (λ _. same-opens b os)
    (λ _. tested P (b == 110) _ _ (λ _. same-opens b os) (λ _. tt)))

next-opens : (s t : State) (at b : ℕ) → next s at b ≡ Some t → Opens b s.1 t
next-opens s t at b e = subst (λ (o : Option State). IfSome o (Opens b s.1)) e (step-opens s.0 s.1 s.2 at b)

-- The bytes give a shallow forest, or the machine stops at them.
abbrev pub Parsed : List ℕ → Type 0
Parsed bytes = ((f : Forest) × (whole bytes ≡ Some f) × (list_nesting f ≤ 100))
    ⊎ ((e : TextStop) × (e ≢ stop.NoMemory) × Refuses bytes e)

at-end : (bytes : List ℕ) (i : ℕ) (s : State) → i ≡ length bytes → state_at bytes i ≡ Some s → IsShallow s
    → (o : Option Forest) → forest_at_end s ≡ o → Parsed bytes
at-end bytes i s end here shallow (Some f) e =
    inl (f, whole_is bytes i s (omega (arith, end)) here ∙ e, omega (arith, finish_reaches s.0 s.1 s.2 f e, shallow))
at-end bytes i s end here shallow None e = inr (
  stop.Bad i,
  (λ e. absurd cc),
  record {
    before = rw here shallow;
    within = omega (arith, end);
    stuck = λ lt. absurd (omega (arith, lt, end));
    unfinished = λ _. whole_is bytes i s (omega (arith, end)) here ∙ e;
  },
)

walk : (k i : ℕ) (bytes : List ℕ) (s : State) → i + k ≡ length bytes → state_at bytes i ≡ Some s → IsShallow s
    → Parsed bytes
unfolding Opens
walk zero i bytes s e here shallow = at-end bytes i s (omega (arith, e)) here shallow (forest_at_end s) refl
walk (suc k) i bytes s e here shallow =
    by (λ t. walk k (suc i) bytes t (omega (arith, e))) (next s i (get_or bytes i 0)) refl
  where
    lt : i < length bytes
    lt = omega (arith, e)

    by : ((t : State) → state_at bytes (suc i) ≡ Some t → IsShallow t → Parsed bytes) → (o : Option State)
        → next s i (get_or bytes i 0) ≡ o → Parsed bytes
    by on None n = inr (stop.Bad i, (λ e. absurd cc), stops_refuses bytes i s (stop.Bad i) lt here shallow (refl, n))
    by on (Some t) n = elim (le_or_lt (length t.1) 100) [
      | inl few ↦ on t (walk_on bytes i s (Some t) lt here n)
          (omega (arith, next_deepens s t i (get_or bytes i 0) n, shallow, few))
      | inr many ↦ elim (next-opens s t i (get_or bytes i 0) n) [
        | inl opens ↦ inr (
          stop.TooDeep i,
          (λ e. absurd cc),
          stops_refuses bytes i s (stop.TooDeep i) lt here shallow (refl, opens, rw n many),
        )
        | inr less ↦ absurd (omega (arith, less, many, length_le-depth_reached s.1 s.2, shallow))
      ]
    ]

pub parsed : (bytes : List ℕ) → Parsed bytes
parsed bytes = walk (length bytes) 0 bytes first_state (omega arith) refl (omega arith)
