use Rattle.std.proofs.Common.{◌≡◌, ap, ℕ, List, true}
use Rattle.rt_values.specs.Maps.{contains}
use Rattle.snap_ids.proofs.Booleans.{not_both, not_true}
use Rattle.snap_nested.specs.Members.{member}
use Rattle.snap_world.proofs.world.RecordWorld.find_unused.Goals as goal

pub returns : goal.returns
returns g c =
    let used = c.add_ends.new.used in
    let free = λ (i : ℕ) (h : contains i used ≡ true). not_true (contains i c.in_ok-unused.unused)
    (λ t. not_both (contains i used) h (c.in_ok-unused.ensures i t)) in
    let more = c.in_ok-add_ends.ensures.more in
    record {
      root = free 1 (more 1 (c.in_ok-add_record_ids.ensures.more 1
          (ap (λ (l : List ℕ). contains 1 l) c.in_ok-used.ensures)));
      first = λ n i own. free (member c.args.self.now.family.members n).first
          (c.in_ok-add_ends.ensures.first n i own);
      current = λ n live. free (member c.args.self.now.family.members n).id
          (c.in_ok-add_ends.ensures.current n live);
      unwritten = λ x p there positive. free p.id (more p.id (c.in_ok-add_record_ids.ensures.all x p there));
    }
