use Rattle.std.proofs.Common.{◌≡◌, ◌≤◌, ℕ, drop, take, length, ◌+◌, ◌-◌, List, ◌++◌, ap, sym, ◌∙◌, arith, length-drop, length-take}
use Rattle.std.proofs.lemmas.List.{take_at, take-append-drop, drop-drop, take_rest}
use Rattle.std.proofs.lemmas.Grind.{common_steps}
use Rattle.std.proofs.Math.ListN.{drop_of_length-le}
use Rattle.rt_streams.proofs.memory.MemSourceSource.read.Goals as goal

-- The items after index `at` are the next n items and then the rest.
handed : (items front back : List ℕ) (at n : ℕ) → n + at ≤ length items
    → front ≡ take n (take (length items - at) (drop at items))
    → drop at items ≡ take n (front ++ back) ++ drop (at + n) items
handed items front back at n within e =
    let next : front ≡ take n (drop at items) = grind (arith, common_steps, e, take_rest) in
    let len : length front ≡ n = rw (next, length-take, length-drop) (omega arith) in
    sym (ap (λ l. l ++ drop (at + n) items) (take_at front back n len ∙ next)
    ∙ ap (λ l. take n (drop at items) ++ l) (sym (drop-drop n at items)) ∙ take-append-drop n (drop at items))

pub returns-clause-bytes : goal.returns-clause-bytes
returns-clause-bytes c =
    let left = ap (λ feed. feed.left) (sym c.self.view_is) in
    record {
      bytes = left ∙ handed c.self.inside.bytes.items c.copy_from_slice.new.self _ c.self.inside.at c.min-count.result
          (grind (arith, common_steps)) (grind (arith, common_steps));
      end = λ none room. drop_of_length-le c.self.inside.bytes.items (grind (arith, common_steps, none, room));
    }
