use Rattle.std.proofs.Common.{◌<◌, ◌≡◌, length, ap, ◌∙◌, arith}
use Rattle.std.specs.Result.{is_ok}
use Rattle.slot_table.specs.TableGroups.{group_at}
use Rattle.run_causes.specs.OldMatches.{queued_levels}
use Rattle.run_causes.proofs.OpenedLevels.{takes, found_is, levels_are, found_below, kept_below, pushed_below}
use Rattle.run_causes.proofs.olds.Unmatched.open_group.Goals as goal

pub queue_inside-requires : goal.queue_inside-requires
queue_inside-requires c =
    let levels = c.args.self.now.levels in
    let some : 0 < length levels.items = omega (arith, c.args.self.now.some, levels.ok.0) in
    let count : c.len-innermost.result ≡ length c.truncate.new.self.items =
    omega (arith, c.len-innermost.ensures, c.truncate.new.self.ok.0) in
    let t = takes c.depth.result c.len-innermost.result levels.items c.truncate.new.self.items c.index_mut.result.now
    c.take-found.new.self c.key_at.result c.take-found.result c.truncate.ensures.items some count
    c.index_mut.ensures.value c.take-found.ensures.found c.take-found.ensures.left in
    let n = length c.args.self.now.table.now.groups in
    found_below n c.take-found.result t c.args.self.now.below

pub invariant_of-self : goal.invariant_of-self
invariant_of-self c =
    let levels = c.args.self.now.levels in
    let some : 0 < length levels.items = omega (arith, c.args.self.now.some, levels.ok.0) in
    let count : c.len-innermost.result ≡ length c.truncate.new.self.items =
    omega (arith, c.len-innermost.ensures, c.truncate.new.self.ok.0) in
    let t = takes c.depth.result c.len-innermost.result levels.items c.truncate.new.self.items c.index_mut.result.now
    c.take-found.new.self c.key_at.result c.take-found.result c.truncate.ensures.items some count
    c.index_mut.ensures.value c.take-found.ensures.found c.take-found.ensures.left in
    let n = length c.args.self.now.table.now.groups in
    let long = c.truncate.ensures.len in
    let all = c.args.self.now.some in
    record { some = omega (arith, long, all); below = kept_below n t c.args.self.now.below }

pub invariant_of-self-2 : goal.invariant_of-self-2
invariant_of-self-2 c =
    let levels = c.args.self.now.levels in
    let some : 0 < length levels.items = omega (arith, c.args.self.now.some, levels.ok.0) in
    let count : c.len-innermost.result ≡ length c.truncate.new.self.items =
    omega (arith, c.len-innermost.ensures, c.truncate.new.self.ok.0) in
    let t = takes c.depth.result c.len-innermost.result levels.items c.truncate.new.self.items c.index_mut.result.now
    c.take-found.new.self c.key_at.result c.take-found.result c.truncate.ensures.items some count
    c.index_mut.ensures.value c.take-found.ensures.found c.take-found.ensures.left in
    let n = length c.args.self.now.table.now.groups in
    let long = c.truncate.ensures.len in
    let all = c.args.self.now.some in
    let more = c.push.ensures.lower_bound in
    record {
      some = omega (arith, long, all, more);
      below = pushed_below n (is_ok c.push.result) _ c.push.new.self.items c.in_ok-inside.inside c.push.ensures.items
          c.in_ok-inside.ensures.below (kept_below n t c.args.self.now.below);
    }

pub returns-clause-found : goal.returns-clause-found
returns-clause-found c =
    let levels = c.args.self.now.levels in
    let some : 0 < length levels.items = omega (arith, c.args.self.now.some, levels.ok.0) in
    let count : c.len-innermost.result ≡ length c.truncate.new.self.items =
    omega (arith, c.len-innermost.ensures, c.truncate.new.self.ok.0) in
    let t = takes c.depth.result c.len-innermost.result levels.items c.truncate.new.self.items c.index_mut.result.now
    c.take-found.new.self c.key_at.result c.take-found.result c.truncate.ensures.items some count
    c.index_mut.ensures.value c.take-found.ensures.found c.take-found.ensures.left in
    found_is (group_at c.args.new.now.groups c.args.i) t c.depth.ensures c.key_at.ensures

pub returns-clause-below : goal.returns-clause-below
returns-clause-below c =
    let levels = c.args.self.now.levels in
    let some : 0 < length levels.items = omega (arith, c.args.self.now.some, levels.ok.0) in
    let count : c.len-innermost.result ≡ length c.truncate.new.self.items =
    omega (arith, c.len-innermost.ensures, c.truncate.new.self.ok.0) in
    let t = takes c.depth.result c.len-innermost.result levels.items c.truncate.new.self.items c.index_mut.result.now
    c.take-found.new.self c.key_at.result c.take-found.result c.truncate.ensures.items some count
    c.index_mut.ensures.value c.take-found.ensures.found c.take-found.ensures.left in
    let n = length c.args.self.now.table.now.groups in
    found_below n c.take-found.result t c.args.self.now.below

pub returns-clause-levels : goal.returns-clause-levels
returns-clause-levels c = λ before is.
    let levels = c.args.self.now.levels in
    let some : 0 < length levels.items = omega (arith, c.args.self.now.some, levels.ok.0) in
    let count : c.len-innermost.result ≡ length c.truncate.new.self.items =
    omega (arith, c.len-innermost.ensures, c.truncate.new.self.ok.0) in
    let t = takes c.depth.result c.len-innermost.result levels.items c.truncate.new.self.items c.index_mut.result.now
    c.take-found.new.self c.key_at.result c.take-found.result c.truncate.ensures.items some count
    c.index_mut.ensures.value c.take-found.ensures.found c.take-found.ensures.left in
    ap (λ l. queued_levels l) c.in_ok-push.ensures.items
    ∙ levels_are before (group_at c.args.new.now.groups c.args.i) c.in_ok-inside.inside t c.depth.ensures
    c.key_at.ensures (c.in_ok-inside.ensures.queues before is)
