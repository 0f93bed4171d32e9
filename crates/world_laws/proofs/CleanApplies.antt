-- An apply takes over exactly the written values.
use Rattle.std.proofs.Common.{◌<◌, ◌==◌, length, ◌≡◌, eq-eqb, Bool, true, false, cond, arith}
use Rattle.std.proofs.lemmas.Option.{slice_get_within}
use Rattle.rt_values.specs.declared.maps.StampedValue.{StampedValue}
use Rattle.rt_values.specs.Maps.{entry_at, contains}
use Rattle.snap_policy.specs.Rules.{Rules}
use Rattle.snap_api.proofs.LawsApplies.{joined_call, told_there}
use Rattle.snap_api.proofs.ValidSettle.{IsVerdict}
use Rattle.snap_api.specs.Settle.{Verdict, takes}
use Rattle.snap_api.specs.Valid.{Base, View}
use Rattle.snap_api.specs.World.{call, snapshot_of}
use Rattle.snap_api.specs.declared.data.Request.TheVariants as request
use Rattle.world_laws.specs.CleanApplies.{CleanApplyIsSerial}

-- An object that was not written stays, and a written one over an equal stamp is taken over.

unwritten : (t : Bool) (verdict : Verdict) (c e : StampedValue) (changed : Bool) → t ≡ false
    → IsVerdict t verdict c e changed → e ≡ c
unwritten true verdict c e changed is told = absurd cc
unwritten false verdict c e changed is told = told.0

taken_over : (t equal : Bool) (other : Verdict) (a c e : StampedValue) (changed : Bool) → t ≡ true → equal ≡ true
    → IsVerdict t (cond equal (takes a) other) c e changed → e ≡ a
taken_over false equal other a c e changed is same told = absurd cc
taken_over true false other a c e changed is same told = absurd cc
taken_over true true other a c e changed is same told = told.0

pub clean_apply_is_serial : {P : Type 0} (rules : Rules P) → CleanApplyIsSerial rules
clean_apply_is_serial rules w caller name x o v known answer =
    let own = snapshot_of w name in
    let parent = (snapshot_of w own.parent).view in
    let after = (call rules w caller (request.Apply name)).0 in
    let left_there = (snapshot_of after own.parent).view in
    let j = joined_call rules w v.shaped caller name answer in
    let told = told_there rules j x o known in
    let within : x < length w.objects = slice_get_within w.objects x o known in
    let base_full = (v.shaped.full name j.there).0 in
    let parent_full = (v.shaped.full own.parent j.above).1 in (
      λ out. unwritten (contains x own.wrote) _ (entry_at parent x) (entry_at left_there x) (contains x j.changed) out
          told,
      λ in_it same. (
        taken_over (contains x own.wrote) ((entry_at own.base x).stamp == (entry_at parent x).stamp) _
            (entry_at own.view x) (entry_at parent x) (entry_at left_there x) (contains x j.changed) in_it
            (eq-eqb (entry_at own.base x).stamp (entry_at parent x).stamp same) told,
        v.agree (Base name) (View own.parent) x (omega (arith, within, base_full))
            (omega (arith, within, parent_full)) same,
      ),
    )
