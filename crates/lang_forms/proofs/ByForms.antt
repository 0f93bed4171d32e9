-- The answer for a forest is that of its forms.
use Rattle.std.proofs.Common.{◌≡◌, inl, inr, ℕ, List, [], ◌∷◌, ◌++◌, Option, Some, None, Result, Ok, Err, refl, sym, ap, ◌∙◌}
use Rattle.sexp_text.specs.Forest.{Forest, empty, atom, text, list, joined_trees}
use Rattle.lang_limits.specs.LeastOffset.{least}
use Rattle.lang_limits.specs.Sizes.{program_limits}
use Rattle.lang_limits.specs.Clamped.{clamped_trees}
use Rattle.lang_ast.specs.declared.program.Version.{Version}
use Rattle.lang_forms.specs.declared.stop.FormStop.{FormStop}
use Rattle.lang_forms.specs.declared.stop.FormStop.TheVariants.{Form, Limit, NoMemory}
use Rattle.lang_forms.specs.TextAnswers.{parsed_answer, unless_beyond, text_answer}
use Rattle.lang_forms.specs.Sources.{Source}
use Rattle.lang_forms.specs.Forms.{HasForms}
use Rattle.lang_forms.specs.Readings.{Seen, seen_trees, header_form, header_at, offset_of}
use Rattle.lang_forms.specs.FirstWrong.{only, first_offset, IsFirstWrong, IsAnswerFor}
use Rattle.lang_forms.specs.TextReading.{PartialSource, source, source_with_tree, source_with_rest, tops_of, text_of, start, source_or_offset, source_of}
use Rattle.lang_forms.proofs.FirstWrong.{listed}
use Rattle.lang_forms.proofs.Limits.{stop_read}
use Rattle.lang_forms.proofs.SeenIs.{seen-behind}
use Rattle.lang_forms.proofs.TextHasForms.{source_found}
use Rattle.lang_forms.proofs.TextIsRead.{text_read}

abbrev taken_as : PartialSource → Result PartialSource ℕ
taken_as p = Ok p

front_same : (p q : PartialSource) → taken_as p ≡ taken_as q → p ≡ q
front_same p q h = cc

-- Top forms after those that were parsed.
go_on : (xs ys : List Seen) (p q : PartialSource) → tops_of p xs ≡ Ok q → tops_of p (xs ++ ys) ≡ tops_of q ys
unfolding tops_of
go_on [] ys p q h = ap (λ (x : PartialSource). tops_of x ys) (front_same p q h)
go_on (s ∷ xs) ys p q h = by (λ r. go_on xs ys r q) (source_with_tree p s) refl h
  where
    by : ((r : PartialSource) → tops_of r xs ≡ Ok q → tops_of r (xs ++ ys) ≡ tops_of q ys) → (o : Option PartialSource)
        → source_with_tree p s ≡ o
        → source_with_rest (offset_of s) o (λ r. tops_of r xs) ≡ Ok q
        → source_with_rest (offset_of s) (source_with_tree p s) (λ r. tops_of r (xs ++ ys)) ≡ tops_of q ys
    by go None e k = absurd (cc)
    by go (Some r) e k =
        ap (λ (o : Option PartialSource). source_with_rest (offset_of s) o (λ r. tops_of r (xs ++ ys))) e ∙ go r k

text_on : (end : ℕ) (xs ys : List Seen) (q : PartialSource) → text_of end xs ≡ Ok q
    → text_of end (xs ++ ys) ≡ tops_of q ys
unfolding text_of
text_on end [] ys q h = absurd (cc)
text_on end (s ∷ xs) ys q h = by (header_at s) refl h
  where
    by : (o : Option Version) → header_at s ≡ o
        → source_with_rest (offset_of s) o (λ v. tops_of (start (offset_of s) v) xs) ≡ Ok q
        → source_with_rest (offset_of s) (header_at s) (λ v. tops_of (start (offset_of s) v) (xs ++ ys)) ≡ tops_of q ys
    by (Some v) e k =
        ap (λ (o : Option Version). source_with_rest (offset_of s) o
        (λ w. tops_of (start (offset_of s) w) (xs ++ ys))) e
        ∙ go_on xs ys (start (offset_of s) v) q k
    by None e k = absurd (cc)

abbrev stop_at : ℕ → Result PartialSource ℕ
stop_at at = Err at

-- The first tree after the parsed ones stops the parser, if it is not taken with nothing after it.
next_stop : (end : ℕ) (w : Forest) (q : PartialSource)
    → ((r : PartialSource) → tops_of q (seen_trees (only w)) ≡ Ok r → ⊥)
    → tops_of q (seen_trees w) ≡ stop_at (first_offset end w)
unfolding tops_of
next_stop end empty q never = absurd (never q refl)
next_stop end (atom x a f) q never = refl
next_stop end (text x s f) q never = refl
next_stop end (list x i f) q never = by (source_with_tree q (listed x i)) refl
  where
    by : (o : Option PartialSource) → source_with_tree q (listed x i) ≡ o
        → source_with_rest x (source_with_tree q (listed x i)) (λ r. tops_of r (seen_trees f)) ≡ stop_at x
    by None e = ap (λ (o : Option PartialSource). source_with_rest x o (λ r. tops_of r (seen_trees f))) e
    by (Some r) e = absurd (never r (ap (λ (o : Option PartialSource). source_with_rest x o (λ r. tops_of r [])) e))

-- The first tree of all.
first_stop : (end : ℕ) (w : Forest) → ((r : PartialSource) → text_of end (seen_trees (only w)) ≡ Ok r → ⊥)
    → text_of end (seen_trees w) ≡ stop_at (first_offset end w)
unfolding text_of tops_of
first_stop end empty never = refl
first_stop end (atom x a f) never = refl
first_stop end (text x s f) never = refl
first_stop end (list x i f) never = by (header_form (seen_trees i)) refl
  where
    by : (o : Option Version) → header_form (seen_trees i) ≡ o
        → source_with_rest x (header_form (seen_trees i)) (λ v. tops_of (start x v) (seen_trees f)) ≡ stop_at x
    by (Some v) e = absurd (never (start x v)
        (ap (λ (o : Option Version). source_with_rest x o (λ w. tops_of (start x w) [])) e))
    by None e = ap (λ (o : Option Version). source_with_rest x o (λ w. tops_of (start x w) (seen_trees f))) e

abbrev read_as : Source → Result Source ℕ
read_as t = Ok t

front_read : (r : Result PartialSource ℕ) (t : Source) → source_or_offset r ≡ read_as t
    → (q : PartialSource) × (r ≡ taken_as q)
front_read (Ok q) t h = (q, refl)
front_read (Err x) t h = absurd (cc)

-- The parser stops where the forms stop.
pub wrong_read : (end at : ℕ) (f : Forest) → IsFirstWrong end f at → text_of end (seen_trees f) ≡ stop_at at
wrong_read end at f h = elim h.before [
  | inl none ↦
      let here : f ≡ h.wrong = h.is ∙ ap (λ (x : Forest). joined_trees x h.wrong) none in
      let alone : joined_trees h.front (only h.wrong) ≡ only h.wrong =
      ap (λ (x : Forest). joined_trees x (only h.wrong)) none in
      ap (λ (x : Forest). text_of end (seen_trees x)) here
      ∙ first_stop end h.wrong (λ r k. h.none (source r)
      (source_found end (joined_trees h.front (only h.wrong)) (source r)
      (ap (λ (x : Forest). source_of end (seen_trees x)) alone ∙ ap source_or_offset k)))
      ∙ ap stop_at (sym h.offset)
  | inr some ↦
      let q = front_read (text_of end (seen_trees h.front)) some.0 (text_read end h.front some.0 some.1) in
      let site_after = λ (w : Forest). ap (text_of end) (seen-behind h.front w)
      ∙ text_on end (seen_trees h.front) (seen_trees w) q.0 q.1 in
      ap (λ (x : Forest). text_of end (seen_trees x)) h.is ∙ site_after h.wrong
      ∙ next_stop end h.wrong q.0 (λ r k. h.none (source r)
      (source_found end (joined_trees h.front (only h.wrong)) (source r)
      (ap source_or_offset (site_after (only h.wrong) ∙ k))))
      ∙ ap stop_at (sym h.offset)
]

-- The answer of the parser is one of the forms.
pub answer_is : (end : ℕ) (f : Forest) → IsAnswerFor end f (text_answer end f)
answer_is end f = by (source_of end (seen_trees (clamped_trees f))) refl
  where
    limits : (t : Source) → HasForms (clamped_trees f) t → (o : Option ℕ) → least (program_limits f t.program) ≡ o
        → IsAnswerFor end f (unless_beyond o t)
    limits t has None e = (has, e)
    limits t has (Some at) e = (t, has, e)

    by : (r : Result Source ℕ) → source_of end (seen_trees (clamped_trees f)) ≡ r
        → IsAnswerFor end f (parsed_answer f r)
    by (Ok t) e = limits t (source_found end (clamped_trees f) t e) (least (program_limits f t.program)) refl
    by (Err at) e = stop_read end at (clamped_trees f) e

abbrev answer : Result Source FormStop → Result Source FormStop
answer a = a

-- No other answer is one of the forms.
pub answer_one : (end : ℕ) (f : Forest) (a : Result Source FormStop) → IsAnswerFor end f a → a ≡ text_answer end f
answer_one end f (Ok t) h =
    sym (ap (parsed_answer f) (text_read end (clamped_trees f) t h.0) ∙ ap (λ (o : Option ℕ). unless_beyond o t) h.1)
answer_one end f (Err (Form at)) h =
    sym (ap (parsed_answer f) (ap source_or_offset (wrong_read end at (clamped_trees f) h)))
answer_one end f (Err (Limit at)) h =
    sym (ap (parsed_answer f) (text_read end (clamped_trees f) h.0 h.1)
    ∙ ap (λ (o : Option ℕ). unless_beyond o h.0) h.2)
answer_one end f (Err NoMemory) h = absurd h
