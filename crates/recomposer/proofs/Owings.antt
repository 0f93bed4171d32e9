-- What is owed from one take to the next.
use Rattle.std.proofs.Common.{ℕ, zero, suc, ◌+◌, ◌<◌, ◌≤◌, ◌==◌, ◌||◌, List, [], ◌∷◌, ◌≡◌, inl, inr, refl, ap, ◌∙◌, sym, subst, length, eq-eqb, Bool, true, false, not, cond, Option, Some, None, slice_get, arith}
use Rattle.std.specs.Option.{unwrap_or}
use Rattle.std.proofs.lemmas.Bool.Decides.{eqb_tells}
use Rattle.std.proofs.lemmas.Option.{slice_get_cases, slice_get_past, get_or_from_slice_get}
use Rattle.rt_values.specs.declared.maps.StampedValue.{StampedValue}
use Rattle.rt_values.specs.Maps.{Map, no_entry, entry_at, differs, differ, differ_from, contains}
use Rattle.rt_groups.specs.GroupForest.{GroupForest, asks}
use Rattle.rt_groups.specs.Frames.{LastFrame}
use Rattle.lang_ast.specs.declared.program.Program.{Program}
use Rattle.snap_api.specs.Desks.{Follows, FollowsLast}
use Rattle.recompose_laws.specs.Refreshing.{SameReads}
use Rattle.recompose_laws.proofs.Owed.{owed_is_what_changed}
use Rattle.recompose_laws.proofs.Refreshes.{split_at}
use Rattle.composer.specs.OwedObjects.{OwedObjects}
use Rattle.composer.specs.FrameDrafts.{IsOwing, root_of}
use Rattle.lang_ast.specs.Programs.{program_view, functions_of}
use Rattle.lang_checks.specs.CheckedProgram.{IsChecked}
use Rattle.recomposer.specs.Compositions.{IsAt, IsKept, Owes}
use Rattle.recomposer.specs.declared.composition.Composition.{Composition}
use Rattle.recomposer.proofs.StateReads.{AreBelow, kept_below}

other : (x y : ℕ) → x < y → (x == y) ≡ false
other x y h = elim (eqb_tells x y) [ inl e ↦ let same = e.1 in absurd (omega (arith, h, same)) | inr e ↦ e.0 ]

without : (b : Bool) (k y : ℕ) (rest : List ℕ) → y < k → contains y rest ≡ false
    → contains y (cond b (k ∷ rest) rest) ≡ false
without true k y rest h later =
    let apart : (k == y) ≡ false =
    elim (eqb_tells k y) [ inl e ↦ let same = e.1 in absurd (omega (arith, h, same)) | inr e ↦ e.0 ] in
    ap (λ b. b || contains y rest) apart ∙ later
without false k y rest h later = later

-- No object before the first number is in the list.
not_before : (m : Map) (k y : ℕ) (now : List StampedValue) → y < k → contains y (differ_from m k now) ≡ false
not_before m k y [] h = refl
not_before m k y (e ∷ now) h = without (differs (slice_get m k) e) k y (differ_from m (k + 1) now) h
    (not_before m (k + 1) y now (omega (arith, h)))

first_in : (b : Bool) (k : ℕ) (rest : List ℕ) → contains k rest ≡ false → contains k (cond b (k ∷ rest) rest) ≡ b
first_in true k rest h = ap (λ b. b || contains k rest) (eq-eqb k k refl)
first_in false k rest h = h

rest_in : (b : Bool) (k j : ℕ) (rest : List ℕ) → k < j → contains j (cond b (k ∷ rest) rest) ≡ contains j rest
rest_in true k j rest h = ap (λ b. b || contains j rest) (other k j h)
rest_in false k j rest h = refl

-- An object is in the list if its stamp differs.
listed_from : (m : Map) (k x : ℕ) (now : List StampedValue) → x < length now
    → contains (k + x) (differ_from m k now) ≡ differs (slice_get m (k + x)) (entry_at now x)
listed_from m k x [] h = absurd (omega (arith, h))
listed_from m k zero (e ∷ now) h =
    let z : k + 0 ≡ k = omega arith in
    ap (λ j. contains j (differ_from m k (e ∷ now))) z
    ∙ first_in (differs (slice_get m k) e) k (differ_from m (k + 1) now) (not_before m (k + 1) k now (omega arith))
    ∙ ap (λ j. differs (slice_get m j) e) (sym z)
listed_from m k (suc x) (e ∷ now) h =
    let z : k + suc x ≡ (k + 1) + x = omega arith in
    rest_in (differs (slice_get m k) e) k (k + suc x) (differ_from m (k + 1) now) (omega arith)
    ∙ ap (λ j. contains j (differ_from m (k + 1) now)) z
    ∙ listed_from m (k + 1) x now (omega (arith, h))
    ∙ ap (λ j. differs (slice_get m j) (entry_at now x)) (sym z)

past_from : (m : Map) (k x : ℕ) (now : List StampedValue) → length now ≤ x
    → contains (k + x) (differ_from m k now) ≡ false
past_from m k x [] h = refl
past_from m k zero (e ∷ now) h = absurd (omega (arith, h))
past_from m k (suc x) (e ∷ now) h =
    let z : k + suc x ≡ (k + 1) + x = omega arith in
    rest_in (differs (slice_get m k) e) k (k + suc x) (differ_from m (k + 1) now) (omega arith)
    ∙ ap (λ j. contains j (differ_from m (k + 1) now)) z
    ∙ past_from m (k + 1) x now (omega (arith, h))

listed_at : (m now : Map) (x : ℕ) → x < length now
    → contains x (differ (Some m) now) ≡ differs (slice_get m x) (entry_at now x)
listed_at m now x h =
    let z : 0 + x ≡ x = omega arith in
    ap (λ j. contains j (differ_from m 0 now)) (sym z) ∙ listed_from m 0 x now h
    ∙ ap (λ j. differs (slice_get m j) (entry_at now x)) z

past_at : (m now : Map) (x : ℕ) → length now ≤ x → contains x (differ (Some m) now) ≡ false
past_at m now x h =
    let z : 0 + x ≡ x = omega arith in ap (λ j. contains j (differ_from m 0 now)) (sym z) ∙ past_from m 0 x now h

here_at : (m : Map) (x : ℕ) → x < length m → slice_get m x ≡ Some (entry_at m x)
here_at m x h = elim (slice_get_cases m x).1 [
  | inl c ↦ c.2 ∙ ap Some (sym (get_or_from_slice_get m x c.0 no_entry c.2))
  | inr c ↦ let past = c.0 in absurd (omega (arith, h, past))
]

-- Rising stamps differ over two steps if they differ over one.
stamps_differ : (a b c : ℕ) → a ≤ b → b ≤ c → not (a == b) || not (b == c) ≡ not (a == c)
stamps_differ a b c h i = elim (eqb_tells a c) [
  | inl e ↦
      let same = e.1 in
      let first : (a == b) ≡ true = eq-eqb a b (omega (arith, h, i, same)) in
      let second : (b == c) ≡ true = eq-eqb b c (omega (arith, h, i, same)) in
      rw (first, second, e.0) refl
  | inr e ↦ elim (eqb_tells a b) [
    | inl f ↦ let other : (b == c) ≡ false = subst (λ n. (n == c) ≡ false) f.1 e.0 in rw (f.0, other, e.0) refl
    | inr f ↦ rw (f.0, e.0) refl
  ]
]

-- Two maps differ from a third where one of them differs from the next, if stamps rise.
later_members : (m n p : Map) (x : ℕ) → Follows m n → Follows n p
    → contains x (differ (Some m) n) || contains x (differ (Some n) p) ≡ contains x (differ (Some m) p)
later_members m n p x h i =
    let longer = h.long in
    let longest = i.long in
    elim (split_at x (length p)) [
      | inr out ↦
          let first : contains x (differ (Some m) n) ≡ false = past_at m n x (omega (arith, longest, out)) in
          let second : contains x (differ (Some n) p) ≡ false = past_at n p x out in
          let both : contains x (differ (Some m) p) ≡ false = past_at m p x out in
          rw (first, second, both) refl
      | inl within ↦
          let both = listed_at m p x within in
          let second = listed_at n p x within in
          elim (split_at x (length n)) [
            | inr out ↦
                let first : contains x (differ (Some m) n) ≡ false = past_at m n x out in
                let new : slice_get n x ≡ None = slice_get_past n x out in
                let newer : slice_get m x ≡ None = slice_get_past m x (omega (arith, longer, out)) in
                rw (first, second, both, new, newer) refl
            | inl middle ↦
                let first = listed_at m n x middle in
                let known = here_at n x middle in
                elim (split_at x (length m)) [
                  | inr out ↦
                      let newer : slice_get m x ≡ None = slice_get_past m x out in
                      rw (first, second, both, newer) refl
                  | inl old ↦
                      let oldest = here_at m x old in
                      rw (first, second, both, known, oldest)
                      (stamps_differ (entry_at m x).stamp (entry_at n x).stamp (entry_at p x).stamp (h.stamps x old)
                      (i.stamps x middle))
                ]
          ]
    ]

follows_trans : (m n p : Map) → Follows m n → Follows n p → Follows m p
follows_trans m n p h i =
    let longer = h.long in
    let longest = i.long in
    record {
      long = omega (arith, longer, longest);
      stamps =
          λ x old. let a = h.stamps x old in let b = i.stamps x (omega (arith, longer, old)) in omega (arith, a, b);
      values = λ x old same.
          let a = h.stamps x old in
          let b = i.stamps x (omega (arith, longer, old)) in
          h.values x old (omega (arith, a, b, same))
          ∙ i.values x (omega (arith, longer, old)) (omega (arith, a, b, same));
    }

-- A state that changed since the last take is owed too.
pub owes_more : (p : Program) (seen : Option Map) (trail : GroupForest) (last : Option Map) (now : Map)
    (owed owed' : OwedObjects) (changed : List ℕ) → Owes p seen trail last owed → FollowsLast last now
    → changed ≡ differ last now →
    owed'.all ≡ owed.all → ((x : ℕ) → x < length p.states.items
    → contains x owed'.objects ≡ (contains x owed.objects || contains x changed))
    → Owes p seen trail (Some now) owed'
owes_more p None trail last now owed owed' changed h after is all marked = (h.0, all ∙ h.1)
owes_more p (Some m) trail None now owed owed' changed h after is all marked = absurd h
owes_more p (Some m) trail (Some n) now owed owed' changed h after is all marked = (
  all ∙ h.0,
  follows_trans m n now h.1 after,
  λ x low. marked x low ∙ ap (λ b. b || contains x changed) (h.2 x low)
      ∙ ap (λ l. contains x (differ (Some m) n) || contains x l) is ∙ later_members m n now x h.1 after,
  h.3,
)

-- After a good frame nothing is owed.
pub owes_nothing : (p : Program) (m : Map) (trail : GroupForest) (owed : OwedObjects) → owed.all ≡ false
    → owed.objects ≡ [] → IsKept p m trail → Owes p (Some m) trail (Some m) owed
owes_nothing p m trail owed all none kept = (
  all,
  record { long = omega arith; stamps = λ x h. omega arith; values = λ x h same. refl },
  λ x low. ap (λ l. contains x l) none ∙ sym (nothing x),
  kept,
)
  where
    nothing : (x : ℕ) → contains x (differ (Some m) m) ≡ false
    nothing x = elim (split_at x (length m)) [
      | inl h ↦ listed_at m m x h ∙ ap (λ o. differs o (entry_at m x)) (here_at m x h)
          ∙ ap not (eq-eqb (entry_at m x).stamp (entry_at m x).stamp refl)
      | inr h ↦ past_at m m x h
    ]

-- Every state that the kept groups read and that changed is owed.
module _ (n : ℕ) (seen m : Map) (owed : List ℕ) (after : Follows seen m)
    (same : (x : ℕ) → x < n → contains x owed ≡ contains x (differ (Some seen) m)) where
  pub same_below : (xs : List ℕ) → AreBelow n xs → SameReads owed xs seen m
  same_below [] h = tt
  same_below (x ∷ xs) h =
      (λ out. owed_is_what_changed seen m after.long after.values x (sym (same x h.0) ∙ out), same_below xs h.1)

-- What a frame owes.
pub owing : (p : Program) (seen : Option Map) (t : GroupForest) (m : Map) (owed : OwedObjects)
    → IsChecked (program_view p) → Owes p seen t (Some m) owed → IsOwing (functions_of p) (root_of p) seen t m owed
owing p None t m owed checked h = h
owing p (Some seen) t m owed checked h = (
  h.3.composed,
  h.0,
  h.3.numbered,
  same_below (length p.states.items) seen m owed.objects h.1 h.2 (asks t) (kept_below p seen t checked h.3.composed),
)

by_seen : (p : Program) (seen : Option Map) (trail : GroupForest) (m : Map) (owed : OwedObjects) (x : ℕ)
    → Owes p seen trail (Some m) owed → x < length m → length m ≡ length p.states.items →
    (owed.all || contains x owed.objects) ≡ differs (slice_get (unwrap_or seen []) x) (entry_at m x)
by_seen p None trail m owed x owes few same = ap (λ b. b || contains x owed.objects) owes.1
by_seen p (Some seen) trail m owed x owes few same =
    ap (λ b. b || contains x owed.objects) owes.0
    ∙ owes.2 x (subst (λ n. x < n) same few) ∙ listed_at seen m x few

-- A state is owed if its stamp differs between the map of the last good frame and the watcher's last map.
pub owes_at : (c : Composition) (k : LastFrame) (m : Map) (x : ℕ) → IsAt c k (Some m) → x < length m
    → length m ≡ length c.program.now.states.items →
    (c.owed.all || contains x c.owed.objects) ≡ differs (slice_get (unwrap_or k.seen []) x) (entry_at m x)
owes_at c k m x at few same = by_seen c.program.now k.seen k.trail m c.owed x at.owes few same
