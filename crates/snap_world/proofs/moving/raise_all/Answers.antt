use Rattle.std.proofs.Common.{ℕ, ◌≤◌, List, length, take, sym, ap, ◌∙◌, refl, inl, inr, arith}
use Rattle.rt_values.specs.Maps.{contains}
use Rattle.snap_ids.proofs.IdLists.{contains-at}
use Rattle.snap_ids.proofs.Booleans.{same_or_other}
use Rattle.std.specs.Prelude.{slice_index_or}
use Rattle.snap_records.specs.Edits.{with_head_id}
use Rattle.snap_records.specs.Chains.{chain_of}
use Rattle.snap_world.proofs.NotedLoops.{done_more, done_put, done_left, raises_again, some_raised}
use Rattle.snap_world.proofs.moving.raise_all.Goals as goal

pub loop-x-init : goal.loop-x-init
loop-x-init c = record { done = λ x small. refl; past = λ x h. refl; many = refl }

pub loop-x-preserved : goal.loop-x-preserved
loop-x-preserved c =
    let items = c.numbers-x-items.result.now in
    let x : ℕ = slice_index_or items c.loop-x.x-index 0 in
    record {
      done = done_more (with_head_id c.args.id) (raises_again c.args.id) items c.args.count (chain_of c.args.chains.now)
          c.loop-x.x-index (chain_of c.loop-x.chains) (chain_of c.raise_at.new.chains) c.loop-x-test.true
          c.loop-x.invariant.done c.raise_at.ensures.put c.raise_at.ensures.others;
      past = λ y h. elim (same_or_other y x) [
        | inl e ↦ ap (chain_of c.raise_at.new.chains) e ∙ c.raise_at.ensures.past (omega (arith, h, e))
            ∙ ap (chain_of c.loop-x.chains) (sym e) ∙ c.loop-x.invariant.past y h
        | inr e ↦ c.raise_at.ensures.others y e ∙ c.loop-x.invariant.past y h
      ];
      many = c.raise_at.ensures.many ∙ c.loop-x.invariant.many;
    }

pub returns-clause-put : goal.returns-clause-put
returns-clause-put c = λ x small noted.
    let items = c.numbers-x-items.result.now in
    let end : length items ≤ c.loop-x.x-index = omega (arith, c.loop-x-test.false) in
    done_put (with_head_id c.args.id) (raises_again c.args.id) items c.args.count (chain_of c.args.chains.now)
    c.loop-x.x-index (chain_of c.loop-x.chains) end c.loop-x.invariant.done x small
    (ap (λ (l : List ℕ). contains x l) c.numbers-x-items.ensures ∙ noted)

pub returns-clause-left : goal.returns-clause-left
returns-clause-left c = λ x unnoted.
    let items = c.numbers-x-items.result.now in
    let end : length items ≤ c.loop-x.x-index = omega (arith, c.loop-x-test.false) in
    done_left (with_head_id c.args.id) (raises_again c.args.id) items c.args.count (chain_of c.args.chains.now)
    c.loop-x.x-index (chain_of c.loop-x.chains) end c.loop-x.invariant.done c.loop-x.invariant.past x
    (ap (λ (l : List ℕ). contains x l) c.numbers-x-items.ensures ∙ unnoted)

pub raise_at-requires-clause-some : goal.raise_at-requires-clause-some
raise_at-requires-clause-some c = λ small.
    let items = c.numbers-x-items.result.now in
    let x : ℕ = slice_index_or items c.loop-x.x-index 0 in
    some_raised c.args.id (contains x (take c.loop-x.x-index items)) (chain_of c.args.chains.now x)
    (chain_of c.loop-x.chains x) (c.loop-x.invariant.done x small)
    (c.requires.some x small (ap (λ (l : List ℕ). contains x l) (sym c.numbers-x-items.ensures)
    ∙ contains-at items c.loop-x.x-index c.loop-x-test.true))
