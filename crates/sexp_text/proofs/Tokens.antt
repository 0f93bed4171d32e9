-- Laws on whole tokens: where the machine is after each.
use Rattle.std.proofs.Common.{subst, ◌≡◌, ◌≢◌, ◌-◌, inl, inr, ◌≤◌, ◌<◌, ℕ, ◌+◌, ◌==◌, suc, Bool, true, false, ◌&&◌, not, List, [], ◌∷◌, ◌++◌, Some, None, refl, sym, ap, ◌∙◌, zero, length, length-drop, get_or, take, drop, arith, append_assoc, nat_le, add-one}
use Rattle.std.proofs.Math.Seq.{take-add, drop-cons}
use Rattle.std.proofs.Math.Nat.{eq-or-lt_of_le}
use Rattle.std.proofs.lemmas.Bool.{eqb-true, false_from_ne_true}
use Rattle.std.proofs.lemmas.Bool.Decides.{nat_tests}
use Rattle.std.proofs.lemmas.List.{append-nil, length-take, take_all, get_or-drop}
use Rattle.std.proofs.lemmas.Option.{same_Some}
use Rattle.std.specs.List.{list_all}
use Rattle.std.specs.declared.option.Option.{Option}
use Rattle.std.specs.Option.{option_and_then}
use Rattle.sexp_text.specs.declared.stop.TextStop.{TextStop}
use Rattle.sexp_text.specs.declared.stop.TextStop.TheVariants as stops
use Rattle.sexp_text.specs.Forest.{Forest, empty, atom, text, list, joined_trees}
use Rattle.sexp_text.specs.Grammar.{is_blank, is_atom_byte, is_comment}
use Rattle.sexp_text.specs.Machine.{Mode, gap, in_comment, in_word, in_text, in_escape, OpenLists, State, close_list, start, step, next, run, first_state, forest_at_end, state_at, depth_reached, Refuses, is_plain, Leads, EndsText, RefusesAfter, Rests}
use Rattle.sexp_text.proofs.Walks.{run_on, walk_on, reached_same, depth_reached-joined_trees, length_le-depth_reached, whole_is, stops_refuses}
use Rattle.sexp_text.proofs.Complete.{both, negated, name_on, comment_on, start_word}

-- The state after the next `n` bytes.
run_further : (bytes : List ℕ) (at n : ℕ) (s : State) (o : Option State) → at ≤ length bytes
    → state_at bytes at ≡ Some s → run s at (take n (drop at bytes)) ≡ o → state_at bytes (at + n) ≡ o
run_further bytes at n s o le here e =
    let l : 0 + length (take at bytes) ≡ at = omega (arith, length-take at bytes) in
    ap (run first_state 0) (take-add at n bytes)
    ∙ run_on (take at bytes) (take n (drop at bytes)) first_state s 0 here
    ∙ ap (λ k. run s k (take n (drop at bytes))) l
    ∙ e

-- The state after the first byte of a token.
pub started : (bytes : List ℕ) (at : ℕ) (os : OpenLists) (f : Forest) (o : Option State) → Rests bytes at os f
    → at < length bytes → start at (get_or bytes at 0) os f ≡ o
    → state_at bytes (suc at) ≡ o
started bytes at os f o r lt e = walk_on bytes at r.state o lt r.here (r.goes_on lt ∙ e)

-- The machine rests in the mode `gap`: in no comment and after no atom.
pub gap_rests : (bytes : List ℕ) (at : ℕ) (os : OpenLists) (f : Forest) → state_at bytes at ≡ Some (gap, os, f)
    → depth_reached os f ≤ 100 → Rests bytes at os f
gap_rests bytes at os f here le = record {
  state = (gap, os, f);
  here = here;
  reached = refl;
  shallow = le;
  goes_on = λ _. refl;
  ends = λ _. refl;
}

-- The machine rests at the first offset.
pub first_rests : (bytes : List ℕ) → Rests bytes 0 [] empty
first_rests bytes = gap_rests bytes 0 [] empty refl (omega arith)

-- The machine rests after a byte of white space.
pub blank_rests : (bytes : List ℕ) (at : ℕ) (os : OpenLists) (f : Forest) → Rests bytes at os f → at < length bytes
    → is_blank (get_or bytes at 0) ≡ true → Rests bytes (at + 1) os f
blank_rests bytes at os f r lt e =
    gap_rests bytes (at + 1) os f (rw add-one (started bytes at os f (Some (gap, os, f)) r lt (rw e refl))) r.shallow

-- The machine rests after a parenthesis that opens a list.
pub open_rests : (bytes : List ℕ) (at : ℕ) (os : OpenLists) (f : Forest) → Rests bytes at os f → at < length bytes
    → get_or bytes at 0 ≡ 40 → length os < 100
    → Rests bytes (at + 1) ((at, f) ∷ os) empty
open_rests bytes at os f r lt e few =
    let s : State = (gap, (at, f) ∷ os, empty) in
    gap_rests bytes (at + 1) ((at, f) ∷ os) empty (rw add-one (started bytes at os f (Some s) r lt (rw e refl)))
    (omega (arith, r.shallow))

-- The machine rejects a parenthesis that would open a list too deep.
pub open_refuses : (bytes : List ℕ) (at : ℕ) (os : OpenLists) (f : Forest) → Rests bytes at os f → at < length bytes
    → get_or bytes at 0 ≡ 40 → 100 ≤ length os
    → Refuses bytes (stops.TooDeep at)
open_refuses bytes at os f r lt e many =
    let here : next r.state at (get_or bytes at 0) ≡ Some (gap, (at, f) ∷ os, empty) = r.goes_on lt ∙ rw e refl in
    stops_refuses bytes at r.state (stops.TooDeep at) lt r.here (omega (arith, r.reached, r.shallow))
    (refl, e, rw here (omega arith))

-- The depth does not rise when the innermost list is closed.
closed_shallow : (os : OpenLists) (f : Forest) (after : OpenLists) (g : Forest) → close_list os f ≡ Some (gap, after, g)
    → depth_reached os f ≤ 100 → depth_reached after g ≤ 100
closed_shallow [] f after g e le = cc
closed_shallow (o ∷ os) f after g e le =
    subst (λ (t : State). depth_reached t.1 t.2 ≤ 100) (same_Some _ _ e)
    (omega (arith, depth_reached-joined_trees os o.1 (list o.0 f empty), length_le-depth_reached os o.1))

-- The machine rests after a parenthesis that closes a list.
pub close_rests : (bytes : List ℕ) (at : ℕ) (os : OpenLists) (f : Forest) (after : OpenLists) (g : Forest)
    → Rests bytes at os f → at < length bytes → get_or bytes at 0 ≡ 41
    → close_list os f ≡ Some (gap, after, g) → Rests bytes (at + 1) after g
close_rests bytes at os f after g r lt e c =
    gap_rests bytes (at + 1) after g (rw add-one (started bytes at os f (Some (gap, after, g)) r lt (rw e c)))
    (closed_shallow os f after g c r.shallow)

not_equal : (b k : ℕ) → b ≢ k → b == k ≡ false
not_equal b k n = false_from_ne_true (b == k) (λ s. n (eqb-true b k s))

-- A byte that begins no token leads to no state.
pub none_begins : (at b : ℕ) (os : OpenLists) (f : Forest) → is_blank b ≡ false → is_atom_byte b ≡ false → b ≢ 40
    → b ≢ 41 → b ≢ 34 → b ≢ 59 → start at b os f ≡ None
none_begins at b os f blank other opens closes quote comment =
    rw (blank, not_equal b 59 comment, not_equal b 40 opens, not_equal b 41 closes, not_equal b 34 quote, other) refl

-- The machine rejects a byte that leads to no state.
pub bad_refuses : (bytes : List ℕ) (at : ℕ) (os : OpenLists) (f : Forest) → Rests bytes at os f → at < length bytes
    → start at (get_or bytes at 0) os f ≡ None
    → Refuses bytes (stops.Bad at)
bad_refuses bytes at os f r lt e =
    stops_refuses bytes at r.state (stops.Bad at) lt r.here (omega (arith, r.reached, r.shallow))
    (refl, r.goes_on lt ∙ e)

-- The bytes from an offset begin with the byte at that offset.
first_of : (bytes : List ℕ) (at m : ℕ) → at < length bytes
    → take (suc m) (drop at bytes) ≡ get_or bytes at 0 ∷ take m (drop (suc at) bytes)
first_of bytes at m lt = ap (take (suc m)) (drop-cons bytes at 0 lt)

-- A scan: the bytes that pass a test, up to the first byte that fails.
pub record Scan (p : ℕ → Bool) (rest : List ℕ) (n : ℕ) : Type 0 where
  pub within : n ≤ length rest
  pub all : list_all p (take n rest) ≡ true
  pub after : n < length rest → p (get_or rest n 0) ≡ false

-- The slice from an offset to the end has all bytes from that offset.
pub tail_is : (bytes : List ℕ) (at : ℕ) → take (length bytes - at) (drop at bytes) ≡ drop at bytes
tail_is bytes at = take_all (length bytes - at) (drop at bytes) (omega (arith, length-drop at bytes))

-- A scan of the slice from an offset is a scan of the bytes from that offset.
pub scan_of : (p : ℕ → Bool) (bytes : List ℕ) (at n : ℕ) → Scan p (take (length bytes - at) (drop at bytes)) n
    → Scan p (drop at bytes) n
scan_of p bytes at n h = subst (λ (l : List ℕ). Scan p l n) (tail_is bytes at) h

-- The byte after a scan fails its test.
scan_ends : (p : ℕ → Bool) (bytes : List ℕ) (at n : ℕ) → Scan p (drop at bytes) n → at + n < length bytes
    → p (get_or bytes (at + n) 0) ≡ false
scan_ends p bytes at n scan lt = ap p (sym (get_or-drop at bytes n 0))
    ∙ scan.after (omega (arith, length-drop at bytes))

-- A scan is not empty if its first byte passes the test.
pub scan_some : (p : ℕ → Bool) (bytes : List ℕ) (at n : ℕ) → Scan p (drop at bytes) n → at < length bytes
    → p (get_or bytes at 0) ≡ true → 0 < n
scan_some p bytes at zero scan lt begins =
    let same : at + zero ≡ at = omega arith in
    let fails : p (get_or bytes (at + zero) 0) ≡ false = scan_ends p bytes at zero scan (omega arith) in
    let other : p (get_or bytes at 0) ≡ false = ap (λ i. p (get_or bytes i 0)) (sym same) ∙ fails in cc
scan_some p bytes at (suc m) scan lt begins = omega arith

-- The state after the bytes of an atom.
atom_here : (bytes : List ℕ) (at m : ℕ) (os : OpenLists) (f : Forest) → Rests bytes at os f → at < length bytes
    → list_all is_atom_byte (take (suc m) (drop at bytes)) ≡ true
    → state_at bytes (at + suc m) ≡ Some (in_word at (take (suc m) (drop at bytes)), os, f)
atom_here bytes at m os f r lt all =
    let b = get_or bytes at 0 in
    let more = take m (drop (suc at) bytes) in
    let p = both (is_atom_byte b) (list_all is_atom_byte more)
    (ap (list_all is_atom_byte) (sym (first_of bytes at m lt)) ∙ all) in
    let first : state_at bytes (suc at) ≡ Some (in_word at (b ∷ []), os, f) =
    started bytes at os f _ r lt (start_word at b os f p.0) in
    let whole_atom : state_at bytes (suc at + m) ≡ Some (in_word at (b ∷ more), os, f) =
    run_further bytes (suc at) m (in_word at (b ∷ []), os, f) _ (omega arith) first
    (name_on more at (b ∷ []) os f (suc at) p.1) in
    let end : at + suc m ≡ suc at + m = omega arith in
    ap (state_at bytes) end ∙ whole_atom ∙ ap (λ l. Some (in_word at l, os, f)) (sym (first_of bytes at m lt))

-- The machine rests after an atom, whose tree is appended.
pub atom_rests : (bytes : List ℕ) (at n : ℕ) (os : OpenLists) (f : Forest) → Scan is_atom_byte (drop at bytes) n → 0 < n
    → Rests bytes at os f → at < length bytes
    → Rests bytes (at + n) os (joined_trees f (atom at (take n (drop at bytes)) empty))
atom_rests bytes at zero os f scan some r lt = absurd (omega (arith, some))
atom_rests bytes at (suc m) os f scan some r lt =
    let name = take (suc m) (drop at bytes) in
    let same = reached_same os f (atom at name empty) refl in
    record {
      state = (in_word at name, os, f);
      here = atom_here bytes at m os f r lt scan.all;
      reached = sym same;
      shallow = omega (arith, same, r.shallow);
      goes_on = λ more. rw (scan_ends is_atom_byte bytes at (suc m) scan more) refl;
      ends = λ _. refl;
    }

comment_here : (bytes : List ℕ) (at m : ℕ) (os : OpenLists) (f : Forest) → Rests bytes at os f → at < length bytes
    → get_or bytes at 0 ≡ 59 → is_comment (take (suc m) (drop at bytes)) ≡ true
    → state_at bytes (at + suc m) ≡ Some (in_comment, os, f)
comment_here bytes at m os f r lt e all =
    let more = take m (drop (suc at) bytes) in
    let p = both (not (get_or bytes at 0 == 10)) (is_comment more)
    (ap is_comment (sym (first_of bytes at m lt)) ∙ all) in
    let first : state_at bytes (suc at) ≡ Some (in_comment, os, f) = started bytes at os f _ r lt (rw e refl) in
    let end : at + suc m ≡ suc at + m = omega arith in
    ap (state_at bytes) end ∙ run_further bytes (suc at) m (in_comment, os, f) _ (omega arith) first
    (comment_on more os f (suc at) p.1)

-- A byte that fails the test for a comment is LF.
is_line_feed : (b : ℕ) → not (b == 10) ≡ false → b ≡ 10
is_line_feed b e = from (b == 10) refl e where
  from : (w : Bool) → b == 10 ≡ w → not w ≡ false → b ≡ 10
  from true k e = eqb-true b 10 k
  from false k e = cc

-- The machine rests after a comment, before its LF or at the end of the input.
pub comment_rests : (bytes : List ℕ) (at n : ℕ) (os : OpenLists) (f : Forest)
    → Scan (λ c. not (c == 10)) (drop at bytes) n → 0 < n → Rests bytes at os f → at < length bytes
    → get_or bytes at 0 ≡ 59
    → Rests bytes (at + n) os f
comment_rests bytes at zero os f scan some r lt e = absurd (omega (arith, some))
comment_rests bytes at (suc m) os f scan some r lt e = record {
  state = (in_comment, os, f);
  here = comment_here bytes at m os f r lt e scan.all;
  reached = refl;
  shallow = r.shallow;
  goes_on = λ more. rw (is_line_feed (get_or bytes (at + suc m) 0)
      (scan_ends (λ c. not (c == 10)) bytes at (suc m) scan more)) refl;
  ends = λ _. refl;
}

-- The state after the opening quote of a string.
text_begins : (bytes : List ℕ) (at : ℕ) (os : OpenLists) (f : Forest) → Rests bytes at os f → at < length bytes
    → get_or bytes at 0 ≡ 34 → state_at bytes (suc at) ≡ Some (in_text at [], os, f)
text_begins bytes at os f r lt e = started bytes at os f _ r lt (rw e refl)

-- The machine rests after a string, whose tree is appended.
pub text_rests : (bytes : List ℕ) (at end : ℕ) (chars : List ℕ) (os : OpenLists) (f : Forest) → Rests bytes at os f
    → at < length bytes → get_or bytes at 0 ≡ 34 → EndsText bytes at chars end
    → Rests bytes end os (joined_trees f (text at chars empty))
text_rests bytes at end chars os f r lt e h =
    gap_rests bytes end os (joined_trees f (text at chars empty)) (h os f (text_begins bytes at os f r lt e))
    (omega (arith, reached_same os f (text at chars empty) refl, r.shallow))

-- The machine rejects the bytes if it rejects the string.
pub text_refuses : (bytes : List ℕ) (at : ℕ) (os : OpenLists) (f : Forest) (e : TextStop) → Rests bytes at os f
    → at < length bytes → get_or bytes at 0 ≡ 34
    → RefusesAfter bytes (suc at) (in_text at []) e → Refuses bytes e
text_refuses bytes at os f e r lt k h = h os f r.shallow (text_begins bytes at os f r lt k)

-- The machine rejects a list or a string that is open at the end of the input.
pub unfinished_refuses : (bytes : List ℕ) (at : ℕ) (s : State) → at ≡ length bytes → state_at bytes at ≡ Some s
    → depth_reached s.1 s.2 ≤ 100 → forest_at_end s ≡ None → Refuses bytes (stops.Bad at)
unfinished_refuses bytes at s e here le none = record {
  before = rw here le;
  within = omega arith;
  stuck = λ lt. absurd (omega (arith, lt, e));
  unfinished = λ _. whole_is bytes at s (omega arith) here ∙ none;
}

-- Bytes without an escape are appended to the unfinished string.
plain_on : (bs : List ℕ) (from : ℕ) (chars : List ℕ) (os : OpenLists) (f : Forest) (at : ℕ)
    → list_all is_plain bs ≡ true
    → run (in_text from chars, os, f) at bs ≡ Some (in_text from (chars ++ bs), os, f)
plain_on [] from chars os f at h = ap (λ l. Some (in_text from l, os, f)) (sym (append-nil chars))
plain_on (b ∷ bs) from chars os f at h =
    let p = both (is_plain b) (list_all is_plain bs) h in
    ap (option_and_then (λ t. run t (at + 1) bs)) (plain_step b from chars os f at p.0)
    ∙ plain_on bs from (chars ++ b ∷ []) os f (at + 1) p.1
    ∙ ap (λ l. Some (in_text from l, os, f)) (append_assoc chars (b ∷ []) bs) where
      plain_step : (b from : ℕ) (chars : List ℕ) (os : OpenLists) (f : Forest) (at : ℕ) → is_plain b ≡ true
          → step (in_text from chars) os f at b ≡ Some (in_text from (chars ++ b ∷ []), os, f)
      plain_step b from chars os f at h =
          let p = both (nat_le 32 b && not (b == 34)) (not (b == 92)) h in
          let q = both (nat_le 32 b) (not (b == 34)) p.0 in
          rw (negated (b == 34) q.1, negated (b == 92) p.1, q.0) refl

-- A string continues after bytes without an escape.
pub plain_leads : (bytes : List ℕ) (at from n : ℕ) (chars plain : List ℕ) → at ≤ length bytes
    → plain ≡ take n (drop at bytes) → length plain ≡ n → list_all is_plain plain ≡ true
    → Leads bytes at (in_text from chars) (at + length plain) (in_text from (chars ++ plain))
plain_leads bytes at from n chars plain le is len all = λ os f here.
    ap (λ k. state_at bytes (at + k)) len
    ∙ run_further bytes at n (in_text from chars, os, f) _ le here
    (ap (run (in_text from chars, os, f) at) (sym is) ∙ plain_on plain from chars os f at all)

-- The mode after the next byte of a string.
char_on : (bytes : List ℕ) (i at from : ℕ) (m n : Mode) (chars : List ℕ) → at < length bytes
    → ((os : OpenLists) (f : Forest) → step (in_text from chars) os f at (get_or bytes at 0) ≡ Some (n, os, f))
    → Leads bytes i m at (in_text from chars) → Leads bytes i m (at + 1) n
char_on bytes i at from m n chars lt on before =
    λ os f here. rw add-one (walk_on bytes at (in_text from chars, os, f) _ lt (before os f here) (on os f))

-- A string continues after an escape.
pub escape_leads : (bytes : List ℕ) (i at from c : ℕ) (m : Mode) (chars : List ℕ) → at + 1 < length bytes
    → get_or bytes at 0 ≡ 92
    → ((os : OpenLists) (f : Forest) → step (in_escape from chars) os f (at + 1) (get_or bytes (at + 1) 0) ≡ Some
    (in_text from (chars ++ c ∷ []), os, f))
    → Leads bytes i m at (in_text from chars) → Leads bytes i m (at + 2) (in_text from (chars ++ c ∷ []))
escape_leads bytes i at from c m chars lt e on before = λ os f here.
    let two : at + 2 ≡ suc (at + 1) = omega arith in
    ap (state_at bytes) two
    ∙ walk_on bytes (at + 1) (in_escape from chars, os, f) _ lt
    (char_on bytes i at from m (in_escape from chars) chars (omega arith) (λ os f. rw e refl) before os f here)
    (on os f)

-- A string ends at a quote.
pub quote_ends : (bytes : List ℕ) (at from : ℕ) (chars : List ℕ) → at < length bytes → get_or bytes at 0 ≡ 34
    → Leads bytes (suc from) (in_text from []) at (in_text from chars) → EndsText bytes from chars (at + 1)
quote_ends bytes at from chars lt e before =
    λ os f here. rw add-one (walk_on bytes at (in_text from chars, os, f) _ lt (before os f here) (rw e refl))

-- The machine rejects a byte that no string contains.
pub char_refuses : (bytes : List ℕ) (at from : ℕ) (chars : List ℕ) → at < length bytes → get_or bytes at 0 < 32
    → Leads bytes (suc from) (in_text from []) at (in_text from chars)
    → RefusesAfter bytes (suc from) (in_text from []) (stops.Bad at)
char_refuses bytes at from chars lt small before = λ os f deep here.
    let b = get_or bytes at 0 in
    stops_refuses bytes at (in_text from chars, os, f) (stops.Bad at) lt (before os f here) deep
    (refl, rw (other b 34 (omega (arith, small)), other b 92 (omega (arith, small)), below_blank b small) refl) where
      other : (b k : ℕ) → b < k → b == k ≡ false
      other b k lt = not_equal b k (omega (arith, lt))

      below_blank : (b : ℕ) → b < 32 → nat_le 32 b ≡ false
      below_blank b lt = grind (arith, nat_tests)

-- The machine rejects an unknown escape, and an escape that is open at the end of the input.
pub escape_refuses : (bytes : List ℕ) (at from : ℕ) (chars : List ℕ) → at < length bytes → get_or bytes at 0 ≡ 92
    → ((os : OpenLists) (f : Forest) → at + 1 < length bytes
    → step (in_escape from chars) os f (at + 1) (get_or bytes (at + 1) 0) ≡ None)
    → Leads bytes (suc from) (in_text from []) at (in_text from chars)
    → RefusesAfter bytes (suc from) (in_text from []) (stops.Bad (at + 1))
escape_refuses bytes at from chars lt e none before = λ os f deep here.
    let s : State = (in_escape from chars, os, f) in
    let le : at + 1 ≤ length bytes = omega (arith, lt) in
    let next_is = char_on bytes (suc from) at from (in_text from []) (in_escape from chars) chars lt
    (λ os f. rw e refl) before os f here in
    elim (eq-or-lt_of_le le) [
      | inl end ↦ unfinished_refuses bytes (at + 1) s end next_is deep refl
      | inr more ↦ stops_refuses bytes (at + 1) s (stops.Bad (at + 1)) more next_is deep (refl, none os f more)
    ]

-- The machine rests after an atom that the parser has appended.
pub atom_taken : (bytes : List ℕ) (at n : ℕ) (os after : OpenLists) (f g : Forest) (name : List ℕ)
    → Scan is_atom_byte (drop at bytes) n → 0 < n → at < length bytes → name ≡ take n (drop at bytes)
    → after ≡ os → g ≡ joined_trees f (atom at name empty) → Rests bytes at os f → Rests bytes (at + n) after g
atom_taken bytes at n os after f g name scan some lt named lists trees r =
    rw (lists, trees, named) (atom_rests bytes at n os f scan some r lt)

-- The machine rests after a string that the parser has appended.
pub text_taken : (bytes : List ℕ) (at end : ℕ) (os after : OpenLists) (f g : Forest) (chars : List ℕ)
    → at < length bytes → get_or bytes at 0 ≡ 34 → EndsText bytes at chars end
    → after ≡ os → g ≡ joined_trees f (text at chars empty) → Rests bytes at os f → Rests bytes end after g
text_taken bytes at end os after f g chars lt e h lists trees r =
    rw (lists, trees) (text_rests bytes at end chars os f r lt e h)
