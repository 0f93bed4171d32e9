use Rattle.std.proofs.Common.{◌≡◌, ℕ, ◌<◌, List, ap, subst, arith, true, false, length, Option}
use Rattle.std.specs.Prelude.{IfSome, IfNone}
use Rattle.snap_nested.specs.Members.{member, is_free}
use Rattle.snap_nested.proofs.Open.{free_open}
use Rattle.snap_world.proofs.UsedIds.{shorter}
use Rattle.snap_world.proofs.world.RecordWorld.forget_all.Goals as goal

pub forget-requires : goal.forget-requires
forget-requires g c =
    let f = c.loop-next.self.family in
    record {
      there = subst (λ (o : Option ℕ). IfSome o (λ n. n < length f.members)) c.in-Some.is
          c.loop-next.invariant.within;
      free = subst (λ (o : Option ℕ). IfSome o (λ n. is_free f.members (member f.members n) ≡ true))
          c.in-Some.is c.loop-next.invariant.free;
    }

pub loop-next-smaller : goal.loop-next-smaller
loop-next-smaller g c =
    let f = c.loop-next.self.family in
    let free = subst (λ (o : Option ℕ). IfSome o (λ n. is_free f.members (member f.members n) ≡ true))
    c.in-Some.is c.loop-next.invariant.free in
    omega (
      arith,
      ap (λ (l : List ℕ). length l) c.forget.ensures.held,
      shorter c.in-Some.name f.held (free_open f.held f.members c.in-Some.name f.listed free),
    )

pub loop-next-preserved : goal.loop-next-preserved
loop-next-preserved g c = record {
  stays = λ w s. c.forget.ensures.stays w (c.loop-next.invariant.stays w s);
  within = c.freed-next-in-Some.ensures.within;
  free = c.freed-next-in-Some.ensures.free;
  none = c.freed-next-in-Some.ensures.none;
}

pub returns-clause-none : goal.returns-clause-none
returns-clause-none g c = subst (λ (o : Option ℕ). IfNone o ((n : ℕ)
    → is_free c.loop-next.self.family.members (member c.loop-next.self.family.members n) ≡ false))
    c.in_default.is c.loop-next.invariant.none
