-- No text begins with bytes on which the machine stops, and no shallow text with bytes on which it goes too deep.
use Rattle.std.proofs.Common.{◌≡◌, ◌≤◌, ◌<◌, ℕ, ◌+◌, List, [], ◌∷◌, ◌++◌, Some, None, refl, sym, ap, ◌∙◌, length, arith}
use Rattle.std.specs.declared.option.Option.{Option}
use Rattle.std.specs.Option.{option_and_then, IsSomeAnd}
use Rattle.sexp_text.specs.Forest.{Forest, list_nesting}
use Rattle.sexp_text.specs.Machine.{State, next, run, first_state, forest_at_end, whole, depth_reached}
use Rattle.sexp_text.proofs.Walks.{run_on, run_none, next_deepens, finish_reaches}

-- A forest nests at least as deep as the machine at any offset.
pub run_reaches : (bs : List ℕ) (s : State) (at : ℕ) (g : Forest) → option_and_then forest_at_end (run s at bs) ≡ Some g
    → depth_reached s.1 s.2 ≤ list_nesting g
run_reaches [] s at g e = let same : depth_reached s.1 s.2 ≡ list_nesting g = finish_reaches s.0 s.1 s.2 g e in omega arith
run_reaches (b ∷ bs) s at g e = from (next s at b) refl e (λ t. run_reaches bs t (at + 1) g) where
  from : (o : Option State) → next s at b ≡ o
      → option_and_then forest_at_end (option_and_then (λ t. run t (at + 1) bs) o) ≡ Some g
      → ((t : State) → option_and_then forest_at_end (run t (at + 1) bs) ≡ Some g → depth_reached t.1 t.2 ≤ list_nesting g)
      → depth_reached s.1 s.2 ≤ list_nesting g
  from None n e k = cc
  from (Some t) n e k = omega (arith, next_deepens s t at b n, k t e)

-- Bytes with a prefix that leads to no state are no text.
pub none_whole : (front more : List ℕ) → run first_state 0 front ≡ None → whole (front ++ more) ≡ None
none_whole front more e = ap (option_and_then forest_at_end) (run_none front more first_state 0 e)

-- Bytes with a prefix that leads too deep spell no shallow forest.
pub deep_whole : (front more : List ℕ) (f : Forest)
    → IsSomeAnd (run first_state 0 front) (λ s. 100 < depth_reached s.1 s.2) → whole (front ++ more) ≡ Some f
    → 100 < list_nesting f
deep_whole front more f h e = from (run first_state 0 front) refl h where
  from : (o : Option State) → run first_state 0 front ≡ o → IsSomeAnd o (λ s. 100 < depth_reached s.1 s.2)
      → 100 < list_nesting f
  from None n h = absurd h
  from (Some s) n h = omega (
    arith,
    run_reaches more s (0 + length front) f
        (ap (option_and_then forest_at_end) (sym (run_on front more first_state s 0 n)) ∙ e),
  )
