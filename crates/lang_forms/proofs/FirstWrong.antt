-- A text's forms stop where the parser stops.
use Rattle.std.proofs.Common.{◌≡◌, inl, inr, ℕ, ◌∷◌, Option, Some, None, Result, Ok, Err, refl, sym, ap, ◌∙◌}
use Rattle.sexp_text.specs.Forest.{Forest, empty, atom, text, list, joined_trees}
use Rattle.lang_ast.specs.declared.program.Version.{Version}
use Rattle.lang_forms.specs.Sources.{Source}
use Rattle.lang_forms.specs.Forms.{HasForms}
use Rattle.lang_forms.specs.Readings.{Seen, seen_trees, form, roles, header_form}
use Rattle.lang_forms.specs.TextReading.{PartialSource, source, source_with_tree, source_with_rest, tops_of, text_of, start, source_or_offset}
use Rattle.lang_forms.specs.FirstWrong.{only, first_offset, IsFirstWrong}
use Rattle.lang_forms.proofs.TextIsRead.{text_read}
use Rattle.lang_forms.proofs.TextHasForms.{source_found}

-- The trees that the parser takes, and the first that it does not.
record Stopped (end : ℕ) (f : Forest) (p : PartialSource) (at : ℕ) : Type 0 where
  front : Forest
  wrong : Forest
  is : f ≡ joined_trees front wrong
  offset : at ≡ first_offset end wrong
  last : PartialSource
  before : tops_of p (seen_trees front) ≡ Ok last
  stuck : tops_of p (seen_trees (joined_trees front (only wrong))) ≡ Err at

abbrev wrong_at : ℕ → Result PartialSource ℕ
wrong_at y = Err y

err_is : (a b : ℕ) → wrong_at a ≡ wrong_at b → a ≡ b
err_is a b e = cc

err_same : (p : PartialSource) (s : Seen) (at x : ℕ) (go : PartialSource → Result PartialSource ℕ)
    → source_with_tree p s ≡ None → source_with_rest x (source_with_tree p s) go ≡ Err at → at ≡ x
err_same p s at x go none h = err_is at x (sym h ∙ ap (λ o. source_with_rest x o go) none)

-- A first tree that the parser does not take.
stuck_here : (end at x : ℕ) (f g : Forest) (s : Seen) (p : PartialSource) → seen_trees f ≡ s ∷ seen_trees g
    → seen_trees (only f) ≡ s ∷ seen_trees empty → first_offset end f ≡ x → source_with_tree p s ≡ None
    → source_with_rest x (source_with_tree p s) (λ q. tops_of q (seen_trees g)) ≡ Err at
    → tops_of p (s ∷ seen_trees empty) ≡ source_with_rest x (source_with_tree p s) (λ q. tops_of q (seen_trees empty))
    → Stopped end f p at
unfolding tops_of
stuck_here end at x f g s p is alone offset none h step =
    let here : at ≡ x = err_same p s at x (λ q. tops_of q (seen_trees g)) none h in
    record {
      front = empty;
      wrong = f;
      is = refl;
      offset = here ∙ sym offset;
      last = p;
      before = refl;
      stuck = ap (tops_of p) alone ∙ step ∙ ap (λ o. source_with_rest x o (λ q. tops_of q (seen_trees empty))) none
          ∙ ap (λ (y : ℕ). Err y) (sym here);
    }

-- A list, with what it can be parsed as.
abbrev pub listed : ℕ → Forest → Seen
listed x i = form x (roles x (seen_trees i))

stopped : (end at : ℕ) (f : Forest) (p : PartialSource) → tops_of p (seen_trees f) ≡ Err at → Stopped end f p at
unfolding tops_of
stopped end at empty p h = absurd (cc)
stopped end at (atom x a f) p h = stuck_here end at x (atom x a f) f _ p refl refl refl refl h refl
stopped end at (text x s f) p h = stuck_here end at x (text x s f) f _ p refl refl refl refl h refl
stopped end at (list x i f) p h = by (λ q. stopped end at f q) (source_with_tree p (listed x i)) refl
  where
    by : ((q : PartialSource) → tops_of q (seen_trees f) ≡ Err at → Stopped end f q at) → (o : Option PartialSource)
        → source_with_tree p (listed x i) ≡ o → Stopped end (list x i f) p at
    by go None e = stuck_here end at x (list x i f) f (listed x i) p refl refl refl e h refl
    by go (Some q) e =
        let more = go q (sym (ap (λ o. source_with_rest x o (λ r. tops_of r (seen_trees f))) e) ∙ h) in
        record {
          front = list x i more.front;
          wrong = more.wrong;
          is = ap (list x i) more.is;
          offset = more.offset;
          last = more.last;
          before = ap (λ o. source_with_rest x o (λ r. tops_of r (seen_trees more.front))) e ∙ more.before;
          stuck = ap (λ o. source_with_rest x o
              (λ r. tops_of r (seen_trees (joined_trees more.front (only more.wrong))))) e ∙ more.stuck;
        }

abbrev refusal : ℕ → Result Source ℕ
refusal x = Err x

refused : (end at : ℕ) (f : Forest) (t : Source) → text_of end (seen_trees f) ≡ Err at → ¬ HasForms f t
refused end at f t h has = apart (sym (ap source_or_offset h) ∙ text_read end f t has)
  where
    apart : refusal at ≡ Ok t → ⊥
    apart e = cc

-- A first tree that is no header.
no_header : (end at : ℕ) (f : Forest) → text_of end (seen_trees f) ≡ Err at → at ≡ first_offset end f
    → ((x : ℕ) × (text_of end (seen_trees (only f)) ≡ Err x)) → IsFirstWrong end f at
no_header end at f h offset alone = record {
  front = empty;
  wrong = f;
  is = refl;
  offset = offset;
  before = inl refl;
  none = λ t. refused end alone.0 (only f) t alone.1;
  nor_all = λ t. refused end at f t h;
}

pub first_wrong : (end at : ℕ) (f : Forest) → text_of end (seen_trees f) ≡ Err at → IsFirstWrong end f at
unfolding text_of
first_wrong end at empty h = no_header end at empty h (err_is at end (sym h)) (end, refl)
first_wrong end at (atom x a f) h = no_header end at (atom x a f) h (err_is at x (sym h)) (x, refl)
first_wrong end at (text x s f) h = no_header end at (text x s f) h (err_is at x (sym h)) (x, refl)
first_wrong end at (list x i f) h = by (header_form (seen_trees i)) refl h
  where
    by : (o : Option Version) → header_form (seen_trees i) ≡ o
        → source_with_rest x o (λ v. tops_of (start x v) (seen_trees f)) ≡ Err at → IsFirstWrong end (list x i f) at
    by None e k = no_header end at (list x i f) h (err_is at x (sym k))
        (x, ap (λ (o : Option Version). source_with_rest x o (λ v. tops_of (start x v) (seen_trees empty))) e)
    by (Some v) e k =
        let s = stopped end at f (start x v) k in
        let front : text_of end (seen_trees (list x i s.front)) ≡ Ok s.last =
        ap (λ (o : Option Version). source_with_rest x o (λ w. tops_of (start x w) (seen_trees s.front))) e
        ∙ s.before in
        let stuck : text_of end (seen_trees (list x i (joined_trees s.front (only s.wrong)))) ≡ Err at =
        ap (λ (o : Option Version). source_with_rest x o
        (λ w. tops_of (start x w) (seen_trees (joined_trees s.front (only s.wrong))))) e
        ∙ s.stuck in
        record {
          front = list x i s.front;
          wrong = s.wrong;
          is = ap (list x i) s.is;
          offset = s.offset;
          before = inr (source s.last, source_found end (list x i s.front) (source s.last) (ap source_or_offset front));
          none = λ t. refused end at (list x i (joined_trees s.front (only s.wrong))) t stuck;
          nor_all = λ t. refused end at (list x i f) t h;
        }
