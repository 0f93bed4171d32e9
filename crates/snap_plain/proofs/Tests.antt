-- Lemmas about the tests of a write, and about merges that take no memory.
use Rattle.std.proofs.Common.{◌≡◌, ℕ, ◌<◌, Bool, true, false, List, [], ◌∷◌, length, refl, sym, subst, ◌∙◌, ap, Option, Some, None}
use Rattle.std.proofs.lemmas.Option.{slice_get_read, slice_get_within, get_or_from_slice_get}
use Rattle.std.specs.Prelude.{slice_get, slice_index_or, if◌then◌else◌}
use Rattle.rt_values.specs.Maps.{value_at}
use Rattle.rt_values.specs.Values.{type_of, same_type}
use Rattle.rt_values.specs.declared.value.Value.{Value}
use Rattle.snap_policy.specs.Rules.{Rules}
use Rattle.snap_api.specs.World.{World, refusal_or_effect, snapshot_of, write_to, world_after_write, is_spent, is_closed, is_foreign, is_mutable}
use Rattle.snap_api.specs.declared.data.Object.{Object}
use Rattle.snap_api.specs.declared.data.Refusal.{Refusal}
use Rattle.snap_api.specs.declared.data.Refusal.TheVariants as refusal
use Rattle.snap_api.specs.declared.data.Reply.{Reply}
use Rattle.snap_api.specs.declared.data.Reply.TheVariants as reply
use Rattle.snap_api.specs.declared.data.Snapshot.{Snapshot}
use Rattle.snap_plain.specs.CallParts.{WriteTested, ObjectTested, WritesTo, AreFree}
use Rattle.snap_plain.specs.FreeRefusals.{MergesAreFree}

-- A call has its effect if each of three tests is false.
three_pass : {P : Type 0} (w : World P) (a b c : Bool) (d e f : Refusal) (effect : World P × Reply)
    → a ≡ false → b ≡ false → c ≡ false
    → refusal_or_effect w ((a, d) ∷ (b, e) ∷ (c, f) ∷ []) effect ≡ effect
three_pass w a b c d e f effect first second third = rw (first, second, third)

-- A write that passes the tests of the clock and the snapshot is refused only by the tests of the object.
pub write_tested : {P : Type 0} (rules : Rules P) (w : World P) (caller name x : ℕ) (value : Value)
    (found : Option Refusal) → is_spent w ≡ false → is_closed w name ≡ false → name < length w.snapshots
    → is_foreign w caller name ≡ false → ObjectTested rules w caller name x value found
    → WriteTested rules w caller name x value found
write_tested rules w caller name x value (Some e) spent closed known foreign tested =
    three_pass w _ _ _ _ _ _ _ spent closed foreign ∙ tested
write_tested rules w caller name x value None spent closed known foreign tested = record {
  known = known;
  there = tested.there;
  call = λ o is. three_pass w _ _ _ _ _ _ _ spent closed foreign ∙ tested.call o is;
}

-- An object that was read from a copy of the list is an entry of the list.
pub object_there : {P : Type 0} (xs ys : List (Object P)) (x : ℕ) (o : Object P) → ys ≡ xs → x < length ys
    → o ≡ slice_index_or ys x o → slice_get xs x ≡ Some o
object_there xs ys x o same there is = ap (λ l. slice_get l x) (sym same)
    ∙ slice_get_read ys (length ys) x o refl there is

module _ {P : Type 0} (rules : Rules P) (w : World P) (caller name x : ℕ) (value : Value) (o : Object P)
    (there : slice_get w.objects x ≡ Some o) where
  -- A write to a readonly snapshot is refused.
  pub refused_readonly : is_mutable (snapshot_of w name).kind ≡ false
      → write_to rules w caller name x value (slice_get w.objects x) ≡ (w, reply.Refused refusal.ReadOnly)
  refused_readonly readonly = rw (there, readonly)

  -- A write of a value of another type is refused.
  pub refused_type : is_mutable (snapshot_of w name).kind ≡ true → same_type (type_of value) o.ty ≡ false
      → write_to rules w caller name x value (slice_get w.objects x) ≡ (w, reply.Refused (refusal.WrongType o.ty))
  refused_type mutable other = rw (there, mutable, other)

  -- The policy decides on a write of a value of the object's type to a mutable snapshot.
  pub writes_to : is_mutable (snapshot_of w name).kind ≡ true → same_type (type_of value) o.ty ≡ true
      → WritesTo rules w caller name x value
  writes_to mutable same = record {
    there = slice_get_within w.objects x o there;
    call = λ p is. subst (λ (q : Object P). write_to rules w caller name x value (slice_get w.objects x)
        ≡ (if rules.equiv q.policy (value_at (snapshot_of w name).view x) value then (w, reply.Wrote false)
        else (world_after_write w name x value, reply.Wrote true)))
        (sym (is ∙ get_or_from_slice_get w.objects x o p there)) (rw (there, mutable, same));
  }

-- If no merge of a snapshot takes memory, no merge of the snapshot's parts takes memory.
pub merges_free : {P : Type 0} (is_free : P → Value → Value → Value → Type 0) (w : World P) (name : ℕ)
    (s above : Snapshot) (objects : List (Object P)) → s ≡ snapshot_of w name → above ≡ snapshot_of w s.parent
    → objects ≡ w.objects → MergesAreFree is_free w name → AreFree is_free s above.view objects
merges_free is_free w name s above objects shot into same free =
    let whole : AreFree is_free (snapshot_of w name) (snapshot_of w (snapshot_of w name).parent).view w.objects =
    λ x o there is noted. free x o (slice_get_read w.objects (length w.objects) x o refl there is) noted in
    let listed : AreFree is_free (snapshot_of w name) (snapshot_of w (snapshot_of w name).parent).view objects =
    subst (λ l. AreFree is_free (snapshot_of w name) (snapshot_of w (snapshot_of w name).parent).view l) (sym same)
    whole in
    let own : AreFree is_free s (snapshot_of w s.parent).view objects =
    subst (λ (t : Snapshot). AreFree is_free t (snapshot_of w t.parent).view objects) (sym shot) listed in
    subst (λ (a : Snapshot). AreFree is_free s a.view objects) (sym into) own
