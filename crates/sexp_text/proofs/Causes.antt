-- Each refusal has its cause, and bytes have at most one cause.
use Rattle.std.proofs.Common.{subst, ◌≡◌, ◌≢◌, ◌⊎◌, inl, inr, ◌≤◌, ◌<◌, ℕ, suc, List, [], ◌∷◌, ◌++◌, Some, None, Ok, Err, refl, sym, ap, ◌∙◌, length, take, drop, get_or, arith, append_assoc}
use Rattle.std.proofs.Math.Nat.{eq-or-lt_of_le}
use Rattle.std.proofs.Math.Seq.{take-suc}
use Rattle.std.proofs.lemmas.List.{take-append-drop, take-take, take_all}
use Rattle.std.proofs.lemmas.Str.{IsUtf8-append}
use Rattle.std.specs.declared.result.Result.{Result}
use Rattle.std.specs.Result.{IfOk, IfErr}
use Rattle.std.specs.Str.{IsUtf8}
use Rattle.std.specs.declared.option.Option.{Option}
use Rattle.std.specs.Option.{IsSomeAnd}
use Rattle.sexp_text.specs.declared.stop.TextStop.{TextStop}
use Rattle.sexp_text.specs.declared.stop.TextStop.TheVariants as stops
use Rattle.sexp_text.specs.Forest.{Forest, list_nesting}
use Rattle.sexp_text.specs.Grammar.{Spells}
use Rattle.sexp_text.specs.TextFaults.{IsTextFront, IsShallowTextFront, IsBadAt, IsTooDeepAt, Cause}
use Rattle.sexp_text.specs.Machine.{State, next, run, first_state, state_at, depth_reached, IsShallow, Fails, GoesDeep, Refuses}
use Rattle.sexp_text.proofs.Walks.{walk_on}
use Rattle.sexp_text.proofs.Complete.{whole-spells}
use Rattle.sexp_text.proofs.Refusals.{none_whole, deep_whole}
use Rattle.sexp_text.proofs.Fronts.{ascii_one, Completed, completed, front_utf8}

-- Of two numbers, one is less than the other, or both are equal.
lt_eq_or_gt : (p q : ℕ) → (p < q) ⊎ ((p ≡ q) ⊎ (q < p))
lt_eq_or_gt p q = grind arith

-- An option that has a state with a given property.
record Reached (o : Option State) (P : State → Type 0) : Type 0 where
  state : State
  is : o ≡ Some state
  holds : P state

reached_of : (o : Option State) (P : State → Type 0) → IsSomeAnd o P → Reached o P
reached_of None P h = absurd h
reached_of (Some s) P h = record { state = s; is = refl; holds = h }

shallow_front : (bytes : List ℕ) (depth : ℕ) → Completed bytes depth → depth ≤ 100 → IsShallowTextFront bytes
shallow_front bytes depth c le =
    record { more = c.more; forest = c.forest; spells = c.spells; shallow = omega (arith, c.deep) }

-- Bytes after which the machine has no state are no prefix of a text.
none_begins : (front : List ℕ) → run first_state 0 front ≡ None → ¬ IsTextFront front
none_begins front e b = let is = whole-spells (front ++ b.more) b.forest b.spells in
    let other = none_whole front b.more e in cc

-- Bytes after which lists are open too deep are no prefix of a shallow text.
none_shallow : (front : List ℕ) → IsSomeAnd (run first_state 0 front) (λ s. 100 < depth_reached s.1 s.2)
    → ¬ IsShallowTextFront front
none_shallow front h b = omega (
  arith,
  b.shallow,
  deep_whole front b.more b.forest h (whole-spells (front ++ b.more) b.forest b.spells),
)

-- The byte after which the machine has no state is the byte that it rejects.
stuck_next : (bytes : List ℕ) (at : ℕ) (s : State) → at < length bytes → state_at bytes at ≡ Some s
    → state_at bytes (suc at) ≡ None → next s at (get_or bytes at 0) ≡ None
stuck_next bytes at s lt e n = sym (walk_on bytes at s (next s at (get_or bytes at 0)) lt e refl) ∙ n

bad_before : (bytes : List ℕ) (at : ℕ) (s : State) → IsUtf8 bytes → Fails bytes at → state_at bytes at ≡ Some s
    → IsUtf8 (take at bytes)
bad_before bytes at s utf8 r e = elim (eq-or-lt_of_le r.within) [
  | inl end ↦ subst IsUtf8 (sym (take_all at bytes (omega arith))) utf8
  | inr lt ↦ front_utf8 bytes at s utf8 lt e (inl (stuck_next bytes at s lt e (r.stuck lt)))
]

bad_cause : (bytes : List ℕ) (at : ℕ) → IsUtf8 bytes → Fails bytes at → IsBadAt bytes at
bad_cause bytes at utf8 r =
    let s = reached_of (state_at bytes at) IsShallow r.before in
    record {
      utf8 = utf8;
      within = r.within;
      before = shallow_front (take at bytes) _
          (completed (take at bytes) s.state (bad_before bytes at s.state utf8 r s.is) s.is) s.holds;
      stuck = λ lt. none_begins (take (suc at) bytes) (r.stuck lt);
      unfinished = λ e f t. let is = whole-spells bytes f t in let other = r.unfinished e in cc;
    }

-- A UTF-8 prefix remains UTF-8 if a parenthesis is appended.
front_more : (bytes : List ℕ) (at : ℕ) → at < length bytes → IsUtf8 (take at bytes) → get_or bytes at 0 ≡ 40
    → IsUtf8 (take (suc at) bytes)
front_more bytes at lt utf8 e = subst IsUtf8 (sym (take-suc bytes at 0 lt ∙ ap (λ b. take at bytes ++ b ∷ []) e))
    (IsUtf8-append (take at bytes) (40 ∷ []) utf8 (ascii_one 40 (omega arith)))

deep_cause : (bytes : List ℕ) (at : ℕ) → IsUtf8 bytes → GoesDeep bytes at → IsTooDeepAt bytes at
deep_cause bytes at utf8 r =
    let s = reached_of (state_at bytes at) IsShallow r.before in
    let t = reached_of (state_at bytes (suc at)) (λ u. 100 < depth_reached u.1 u.2) r.deep in
    let front = front_utf8 bytes at s.state utf8 r.within s.is (inr r.opens) in
    let c = completed (take (suc at) bytes) t.state (front_more bytes at r.within front r.opens) t.is in
    record {
      utf8 = utf8;
      within = r.within;
      before = shallow_front (take at bytes) _ (completed (take at bytes) s.state front s.is) s.holds;
      opens = r.opens;
      begins = record { more = c.more; forest = c.forest; spells = c.spells };
      deep = none_shallow (take (suc at) bytes) r.deep;
    }

-- Each refusal of the machine has a cause in the bytes.
refuses_cause : (bytes : List ℕ) (stop : TextStop) → IsUtf8 bytes → Refuses bytes stop → Cause bytes stop
refuses_cause bytes stops.NoMemory utf8 r = tt
refuses_cause bytes (stops.NotUtf8 at) utf8 r = absurd r
refuses_cause bytes (stops.Bad at) utf8 r = bad_cause bytes at utf8 r
refuses_cause bytes (stops.TooDeep at) utf8 r = deep_cause bytes at utf8 r

-- Each prefix of a shallow text is a prefix of a shallow text.
front_begins : (bytes : List ℕ) (n : ℕ) (f : Forest) → Spells bytes f → list_nesting f ≤ 100
    → IsShallowTextFront (take n bytes)
front_begins bytes n f s le = record {
  more = drop n bytes;
  forest = f;
  spells = subst (λ (l : List ℕ). Spells l f) (sym (take-append-drop n bytes)) s;
  shallow = le;
}

begins : (bytes : List ℕ) → IsShallowTextFront bytes → IsTextFront bytes
begins bytes b = record { more = b.more; forest = b.forest; spells = b.spells }

-- A shallow text has no cause of a refusal.
pub no_cause : (bytes : List ℕ) (stop : TextStop) (f : Forest) → Cause bytes stop → stop ≢ stops.NoMemory
    → Spells bytes f → list_nesting f ≤ 100 → ⊥
no_cause bytes stops.NoMemory f r n s le = n refl
no_cause bytes (stops.NotUtf8 at) f r n s le = r.0 s.utf8
no_cause bytes (stops.Bad at) f r n s le = elim (eq-or-lt_of_le r.within) [
  | inl e ↦ r.unfinished e f s
  | inr lt ↦ r.stuck lt (begins (take (suc at) bytes) (front_begins bytes (suc at) f s le))
]
no_cause bytes (stops.TooDeep at) f r n s le = r.deep (front_begins bytes (suc at) f s le)

-- A shorter prefix of a prefix of a text is a prefix of a text.
shorter : (bytes : List ℕ) (m n : ℕ) → m ≤ n → IsShallowTextFront (take n bytes) → IsShallowTextFront (take m bytes)
shorter bytes m n le b =
    let front : take n bytes ≡ take m bytes ++ drop m (take n bytes) = sym (take-append-drop m (take n bytes))
    ∙ ap (λ l. l ++ drop m (take n bytes)) (take-take m n bytes le) in
    record {
      more = drop m (take n bytes) ++ b.more;
      forest = b.forest;
      spells = subst (λ (l : List ℕ). Spells l b.forest) (ap (λ l. l ++ b.more) front
          ∙ append_assoc (take m bytes) (drop m (take n bytes)) b.more) b.spells;
      shallow = b.shallow;
    }

-- Bytes are not rejected at an offset inside a prefix of a shallow text.
bad_least : (bytes : List ℕ) (p q : ℕ) → IsBadAt bytes p → IsShallowTextFront (take q bytes)
    → q ≤ length bytes → p < q → ⊥
bad_least bytes p q r b le lt = r.stuck (omega arith) (begins (take (suc p) bytes) (shorter bytes (suc p) q lt b))

deep_least : (bytes : List ℕ) (p q : ℕ) → IsTooDeepAt bytes p → IsShallowTextFront (take q bytes) → p < q → ⊥
deep_least bytes p q r b lt = r.deep (shorter bytes (suc p) q lt b)

-- Bytes cannot be wrong at one offset and too deep at another.
bad_deep : (bytes : List ℕ) (p q : ℕ) → IsBadAt bytes p → IsTooDeepAt bytes q → ⊥
bad_deep bytes p q r d = elim (lt_eq_or_gt p q) [
  | inl lt ↦ bad_least bytes p q r d.before (omega (arith, d.within)) lt
  | inr h ↦ elim h [
    | inl e ↦ r.stuck (omega (arith, d.within)) (subst (λ (n : ℕ). IsTextFront (take (suc n) bytes)) (sym e) d.begins)
    | inr gt ↦ deep_least bytes q p d r.before gt
  ]
]

same_place : (p q : ℕ) → ¬ (p < q) → ¬ (q < p) → p ≡ q
same_place p q a b = elim (lt_eq_or_gt p q) [
  | inl lt ↦ absurd (a lt)
  | inr h ↦ elim h [ inl e ↦ e | inr gt ↦ absurd (b gt) ]
]

-- Bytes have at most one cause of a refusal.
pub same_cause : (bytes : List ℕ) (a b : TextStop) → Cause bytes a → Cause bytes b → a ≢ stops.NoMemory
    → b ≢ stops.NoMemory → a ≡ b
same_cause bytes stops.NoMemory b r s n m = absurd (n refl)
same_cause bytes (stops.NotUtf8 p) stops.NoMemory r s n m = absurd (m refl)
same_cause bytes (stops.NotUtf8 p) (stops.NotUtf8 q) r s n m = ap stops.NotUtf8 (r.1 ∙ sym s.1)
same_cause bytes (stops.NotUtf8 p) (stops.Bad q) r s n m = absurd (r.0 s.utf8)
same_cause bytes (stops.NotUtf8 p) (stops.TooDeep q) r s n m = absurd (r.0 s.utf8)
same_cause bytes (stops.Bad p) stops.NoMemory r s n m = absurd (m refl)
same_cause bytes (stops.Bad p) (stops.NotUtf8 q) r s n m = absurd (s.0 r.utf8)
same_cause bytes (stops.Bad p) (stops.Bad q) r s n m =
    ap stops.Bad (same_place p q (bad_least bytes p q r s.before s.within) (bad_least bytes q p s r.before r.within))
same_cause bytes (stops.Bad p) (stops.TooDeep q) r s n m = absurd (bad_deep bytes p q r s)
same_cause bytes (stops.TooDeep p) stops.NoMemory r s n m = absurd (m refl)
same_cause bytes (stops.TooDeep p) (stops.NotUtf8 q) r s n m = absurd (s.0 r.utf8)
same_cause bytes (stops.TooDeep p) (stops.Bad q) r s n m = absurd (bad_deep bytes q p s r)
same_cause bytes (stops.TooDeep p) (stops.TooDeep q) r s n m =
    ap stops.TooDeep (same_place p q (deep_least bytes p q r s.before) (deep_least bytes q p s r.before))

-- Each error that the machine justifies has a cause in the bytes.
pub caused : {V : Type 0} (bytes : List ℕ) (r : Result V TextStop) → IsUtf8 bytes → IfErr r (Refuses bytes)
    → IfErr r (Cause bytes)
caused bytes (Ok v) utf8 h = tt
caused bytes (Err stop) utf8 h = refuses_cause bytes stop utf8 h

-- If bytes have a cause of a refusal, the result is that error or `NoMemory`.
pub answered : {V : Type 0} (view : V → Forest) (bytes : List ℕ) (r : Result V TextStop)
    → IfOk r (λ v. Spells bytes (view v) × (list_nesting (view v) ≤ 100)) → IfErr r (Cause bytes)
    → (stop : TextStop) → stop ≢ stops.NoMemory → Cause bytes stop → (r ≡ Err stop) ⊎ (r ≡ Err stops.NoMemory)
answered view bytes (Ok v) ok err stop n c = absurd (no_cause bytes stop (view v) c n ok.0 ok.1)
answered view bytes (Err stops.NoMemory) ok err stop n c = inr refl
answered view bytes (Err (stops.NotUtf8 p)) ok err stop n c =
    inl (ap Err (same_cause bytes (stops.NotUtf8 p) stop err c (λ e. cc) n))
answered view bytes (Err (stops.Bad p)) ok err stop n c =
    inl (ap Err (same_cause bytes (stops.Bad p) stop err c (λ e. cc) n))
answered view bytes (Err (stops.TooDeep p)) ok err stop n c =
    inl (ap Err (same_cause bytes (stops.TooDeep p) stop err c (λ e. cc) n))
