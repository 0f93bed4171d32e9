-- The records that are read by valid ids.
use Rattle.std.proofs.Common.{◌≡◌, ℕ, ◌+◌, ◌<◌, List, [], ◌∷◌, length, refl, sym, ap, ◌∙◌, Option, Some, None, Bool, true, false, ◌||◌, ◌==◌, Result, Ok, Err, IfOk, OnOk, IfSome, IfNone}
use Rattle.std.specs.Prelude.{slice_get}
use Rattle.std.specs.Option.{option_map}
use Rattle.rt_values.specs.Maps.{contains, entry_at}
use Rattle.rt_values.specs.declared.maps.StampedValue.{StampedValue}
use Rattle.snap_policy.specs.Rules.{Rules}
use Rattle.snap_api.specs.Settle.{verdict}
use Rattle.snap_api.specs.World.{World, snapshot_of}
use Rattle.snap_api.specs.declared.data.Object.{Object}
use Rattle.snap_api.specs.Choices.{choice_of}
use Rattle.snap_records.specs.Chains.{record_at, chain_of}
use Rattle.snap_records.specs.declared.chains.Chains.{Chains}
use Rattle.snap_records.specs.declared.slots.RecordNo.{RecordNo}
use Rattle.snap_records.proofs.Readable.{read_found, read_none}
use Rattle.snap_records.specs.Records.{Rec, Reads}
use Rattle.snap_records.specs.Edits.{readable}
use Rattle.snap_nested.specs.Ids.{valid_for_base}
use Rattle.snap_ids.specs.IdLists.{is_valid}
use Rattle.snap_ids.proofs.IdLists.{contains-one}
use Rattle.snap_laws.specs.Applies.{choice_on, choice_at}
use Rattle.snap_laws.specs.Maps.{entry_of, read_entry}
use Rattle.snap_laws.specs.Represents.{WorldParts, Represents}
use Rattle.snap_laws.proofs.ReadMaps.{read_is}
use Rattle.snap_laws.proofs.Showing.{reader, reader_began}
use Rattle.snap_world.specs.Holding.{world_parts, AreRead}
use Rattle.snap_world.specs.declared.settling.ReadRecords.{ReadRecords}
use Rattle.snap_world.specs.declared.world.RecordWorld.{RecordWorld}
use Rattle.std.proofs.lemmas.Bool.Decides.{Decides-eqb}

-- The value of the readable record.
pub entry_found : (sees : ℕ → Bool) (c : List Rec) (q : Rec) → Some q ≡ readable sees c → q.entry ≡ read_entry sees c
entry_found sees c q is = ap entry_of is

-- A live snapshot reads the value that its view has in the plain world.
pub read_view : {P : Type 0} {h : WorldParts P} {w : World P} → Represents h w → (n x : ℕ) → h.ids.live n ≡ true
    → x < length h.objects → read_entry (h.ids.sees n) (h.chains x) ≡ entry_at (snapshot_of w n).view x
read_view {P} {h} {w} s n x live within = read_is (h.ids.sees n) (h.chains x) (entry_at (snapshot_of w n).view x)
    (reader s.kept.dated n live) (s.kept.chained.apart x) (s.kept.shown.views n x live within)

pub read_base : {P : Type 0} {h : WorldParts P} {w : World P} → Represents h w → (n x : ℕ) → h.ids.live n ≡ true → 0 < n
    → x < length h.objects → read_entry (valid_for_base h.ids n) (h.chains x) ≡ entry_at (snapshot_of w n).base x
read_base {P} {h} {w} s n x live inner within = read_is (valid_for_base h.ids n) (h.chains x)
    (entry_at (snapshot_of w n).base x) (reader_began s.kept.dated n live) (s.kept.chained.apart x)
    (s.kept.shown.bases n x live inner within)

-- The records that the search finds give the choice of the plain world.
pub choice_read : {P : Type 0} (rules : Rules P) (s : RecordWorld P) (name into x : ℕ) (r : ReadRecords) (o : Object P)
    → AreRead s name into x r → slice_get s.objects.items x ≡ Some o →
    choice_of (verdict rules o.policy
    (record_at s.chains r.previous.0).entry (record_at s.chains r.current.0).entry (record_at s.chains
    r.applied.0).entry (s.clock + 1)) (record_at s.chains r.current.0).entry
    ≡ choice_at rules (world_parts s) name into x
choice_read {P} rules s name into x r o a there =
    let h = world_parts s in
    let c : StampedValue = read_entry (h.ids.sees into) (h.chains x) in
    ap (λ (e : StampedValue). choice_of (verdict rules o.policy e
    (record_at s.chains r.current.0).entry (record_at s.chains r.applied.0).entry (s.clock + 1))
    (record_at s.chains r.current.0).entry) a.previous
    ∙ ap (λ (e : StampedValue). choice_of (verdict rules o.policy (read_entry (valid_for_base h.ids name) (h.chains x)) e
    (record_at s.chains r.applied.0).entry (s.clock + 1)) e) a.current
    ∙ ap (λ (e : StampedValue). choice_of (verdict rules o.policy (read_entry (valid_for_base h.ids name) (h.chains x)) c
    e (s.clock + 1)) c) a.applied
    ∙ sym (ap (λ (p : Option (Object P)). choice_on rules h name into x p) there)

-- A fact about a successful result gives each fact that follows from it.
pub ok_more : {U E : Type 0} (A B : U → Type 0) (r : Result U E) → IfOk r A → ((u : U) → A u → B u) → IfOk r B
ok_more A B (Ok u) h f = f u h
ok_more A B (Err e) h f = h

-- The record that the search finds is the record that is read.
pub found_reads : (c : Chains) (x id : ℕ) (invalid : List ℕ) (o : Option RecordNo)
    → option_map (λ b. record_at c b.0) o ≡ readable (is_valid id invalid) (chain_of c x)
    → IfSome o (λ r. Reads (is_valid id invalid) (chain_of c x) (record_at c r.0).entry)
found_reads c x id invalid None h = cc
found_reads c x id invalid (Some r) h = read_found (is_valid id invalid) (chain_of c x) (record_at c r.0) h

-- If the search finds no record, no record is read.
pub found_none : (c : Chains) (x id : ℕ) (invalid : List ℕ) (o : Option RecordNo)
    → option_map (λ b. record_at c b.0) o ≡ readable (is_valid id invalid) (chain_of c x)
    → IfNone o ((e : StampedValue) → Reads (is_valid id invalid) (chain_of c x) e → ⊥)
found_none c x id invalid None h = λ e reads. read_none (is_valid id invalid) (chain_of c x) e h reads
found_none c x id invalid (Some r) h = cc

pub err_is : {U E : Type 0} (d e : E) (r : Result U E) → r ≡ Err d → r ≡ Err e → d ≡ e
err_is d e r h k = cc

-- A name other than the head is not in a list whose rest does not contain it.
pub left_out : (o n : ℕ) (os : List ℕ) → (n ≡ o → ⊥) → contains n os ≡ false → contains n (o ∷ os) ≡ false
left_out o n os other out = neither (o == n) (contains n os) (λ h. other (sym ((Decides-eqb o n).0 h))) out where
  neither : (a b : Bool) → (a ≡ true → ⊥) → b ≡ false → (a || b) ≡ false
  neither true b h k = absurd (h refl)
  neither false b h k = k

-- An id is in the list that contains it alone.
pub one_listed : (i id : ℕ) (l : List ℕ) → id ≡ i → l ≡ id ∷ [] → contains i l ≡ true
one_listed i id l same is = ap (λ (xs : List ℕ). contains i xs) is ∙ contains-one i id ∙ (Decides-eqb i id).1 (sym same)

pub on_ok_more : {U E A B : Type 0} (r : Result U E) → (A → B) → OnOk r A → OnOk r B
on_ok_more (Ok u) f h = f h
on_ok_more (Err e) f h = h
