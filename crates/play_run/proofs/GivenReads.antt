-- The reads of a frame that were given, and those that are left.
use Rattle.std.proofs.Common.{◌≡◌, ℕ, zero, suc, ◌<◌, ◌+◌, List, [], ◌∷◌, ◌++◌, length, take, drop, refl, sym, ap, ◌∙◌, subst, arith, slice_index_or, slice_set}
use Rattle.rt_values.specs.Maps.{Map, value_at}
use Rattle.rt_values.specs.Views.{Extends, Grew}
use Rattle.rt_values.specs.declared.value.Value.{Value}
use Rattle.play_run.specs.RecordedReads.{AgreesWith, objects_read}
use Rattle.play_run.specs.ReplayState.{IsRecordedMap}
use Rattle.play_run.specs.declared.recorded.RecordedReads.{RecordedReads}

-- The object of a read that is given is the next one asked for.
pub asked_next : (reads : List (ℕ × Value)) (i x : ℕ) (d r : ℕ × Value) (v : Value) → i < length reads
    → r ≡ slice_index_or reads i d → r.0 ≡ x →
    take (i + 1) (objects_read (slice_set reads i (r.0, v))) ≡ take i (objects_read reads) ++ x ∷ []
asked_next [] i x d r v within is object = absurd (omega arith)
asked_next (y ∷ ys) zero x d r v within is object = ap (λ n. n ∷ []) object
asked_next (y ∷ ys) (suc i) x d r v within is object =
    let next : suc i + 1 ≡ suc (i + 1) = omega arith in
    ap (λ n. take n (objects_read (slice_set (y ∷ ys) (suc i) (r.0, v)))) next
    ∙ ap (λ l. y.0 ∷ l) (asked_next ys i x d r v (omega (arith, within)) is object)

-- The value of a read that is given is that of the object which is asked for.
pub value_next : (m : Map) (reads : List (ℕ × Value)) (i x : ℕ) (d : ℕ × Value) → AgreesWith m (drop i reads)
    → i < length reads → (slice_index_or reads i d).0 ≡ x →
    (slice_index_or reads i d).1 ≡ value_at m x
value_next m [] i x d agree within object = absurd (omega arith)
value_next m (y ∷ ys) zero x d agree within object = agree.0 ∙ ap (value_at m) object
value_next m (y ∷ ys) (suc i) x d agree within object = value_next m ys i x d agree (omega (arith, within)) object

-- A read that was not given was not asked for.
pub not_asked : (asked : List ℕ) (x : ℕ) → Grew asked asked (x ∷ [])
not_asked asked x = record { rest = x ∷ []; is = refl }

pub asks_more : (asked asked' : List ℕ) (x : ℕ) → asked' ≡ asked ++ x ∷ [] → Extends asked asked'
asks_more asked asked' x is = record { more = x ∷ []; is = is }

-- A map that agrees with all recorded reads agrees with those that are left, since none was given.
pub agrees_with_rest : (reads : RecordedReads) (m : Map) → IsRecordedMap reads m
    → AgreesWith m (drop reads.given reads.reads.items)
agrees_with_rest reads m is = subst (λ n. AgreesWith m (drop n reads.reads.items)) (sym is.0) is.1
