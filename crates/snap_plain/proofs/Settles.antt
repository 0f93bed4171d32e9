-- Lemmas about one more object of an apply, and about one more member of a list.
use Rattle.std.proofs.Common.{◌≡◌, ℕ, ◌+◌, ◌<◌, List, [], ◌∷◌, ◌++◌, refl, take, length, get_or, append_assoc}
use Rattle.std.proofs.lemmas.List.{take_more}
use Rattle.rt_values.specs.Maps.{Map, with_member}
use Rattle.rt_values.specs.declared.maps.StampedValue.{StampedValue}
use Rattle.snap_api.specs.Settle.{Settled, settled, conflict, put_kept, put_changed}
use Rattle.snap_api.specs.World.{with_members}
use Rattle.snap_plain.specs.Choices.{choice_verdict, put_all}
use Rattle.snap_plain.specs.CallParts.{conflict_of}
use Rattle.snap_api.specs.declared.choice.Choice.TheVariants.{Changed, Kept}

-- A changed object comes after those before it.
pub put_all-changed : (front : Map) (changed : List ℕ) (x : ℕ) (e : StampedValue) (rest : Settled)
    → put_all front changed (choice_verdict x (Changed e) rest) ≡ put_all (front ++ e ∷ []) (changed ++ x ∷ []) rest
put_all-changed front changed x e (settled m more) =
    rw (append_assoc front (e ∷ []) m, append_assoc changed (x ∷ []) more)
put_all-changed front changed x e (conflict y) = refl

-- A kept object comes after those before it.
pub put_all-kept : (front : Map) (changed : List ℕ) (x : ℕ) (e : StampedValue) (rest : Settled)
    → put_all front changed (choice_verdict x (Kept e) rest) ≡ put_all (front ++ e ∷ []) changed rest
put_all-kept front changed x e (settled m more) = rw (append_assoc front (e ∷ []) m)
put_all-kept front changed x e (conflict y) = refl

pub ruleset puts = (put_all-changed, put_all-kept)

-- A kept object does not conflict.
pub conflict-kept : (e : StampedValue) (s : Settled) → conflict_of (put_kept e s) ≡ conflict_of s
conflict-kept e (settled m changed) = refl
conflict-kept e (conflict x) = refl

-- A changed object does not conflict.
pub conflict-changed : (x : ℕ) (e : StampedValue) (s : Settled) → conflict_of (put_changed x e s) ≡ conflict_of s
conflict-changed x e (settled m changed) = refl
conflict-changed x e (conflict y) = refl

pub ruleset conflicts = (conflict-kept, conflict-changed)

with_members-snoc : (xs ys : List ℕ) (x : ℕ) → with_members (xs ++ x ∷ []) ys ≡ with_member x (with_members xs ys)
with_members-snoc [] ys x = refl
with_members-snoc (z ∷ xs) ys x = with_members-snoc xs (with_member z ys) x

-- One more step of the loop inserts one more member.
pub members_more : (xs ys : List ℕ) (i : ℕ) → i < length xs
    → with_members (take (i + 1) xs) ys ≡ with_member (get_or xs i 0) (with_members (take i xs) ys)
members_more xs ys i within = rw (take_more xs i 0 within) (with_members-snoc (take i xs) ys (get_or xs i 0))
