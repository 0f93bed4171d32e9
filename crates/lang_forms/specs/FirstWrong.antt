-- Trusted: where trees stop being those of a text.
use Rattle.std.specs.Prelude.{◌≡◌, ◌⊎◌, ℕ, Some, None, Result, Ok, Err}
use Rattle.sexp_text.specs.Forest.{Forest, empty, atom, text, list, joined_trees}
use Rattle.lang_limits.specs.LeastOffset.{least}
use Rattle.lang_limits.specs.Sizes.{program_limits}
use Rattle.lang_limits.specs.Clamped.{clamped_trees}
use Rattle.lang_forms.specs.declared.stop.FormStop.{FormStop}
use Rattle.lang_forms.specs.declared.stop.FormStop.TheVariants.{Form, Limit, NoMemory}
use Rattle.lang_forms.specs.Sources.{Source}
use Rattle.lang_forms.specs.Forms.{HasForms}

-- The first tree, if there is one.
abbrev pub only : Forest → Forest
only empty = empty
only (atom at a f) = atom at a empty
only (text at s f) = text at s empty
only (list at i f) = list at i empty

-- The offset of the first tree, or `end` if there is none.
abbrev pub first_offset : ℕ → Forest → ℕ
first_offset end empty = end
first_offset end (atom at a f) = at
first_offset end (text at s f) = at
first_offset end (list at i f) = at

-- The trees before the offset have the forms of a text, or there are none. With the tree at the offset they have the
-- forms of no text, and neither have all trees.
pub record IsFirstWrong (end : ℕ) (f : Forest) (at : ℕ) : Type 0 where
  pub front : Forest
  pub wrong : Forest
  pub is : f ≡ joined_trees front wrong
  pub offset : at ≡ first_offset end wrong
  pub before : (front ≡ empty) ⊎ ((t : Source) × HasForms front t)
  pub none : (t : Source) → ¬ HasForms (joined_trees front (only wrong)) t
  pub nor_all : (t : Source) → ¬ HasForms f t

-- The answer for a forest in an input of length `end`, by the forms of its clamped trees: a text whose program
-- exceeds no limit, the first wrong top form, or the first offset of a text's program that exceeds a limit.
abbrev pub IsAnswerFor : ℕ → Forest → Result Source FormStop → Type 0
IsAnswerFor end f (Ok t) = HasForms (clamped_trees f) t × (least (program_limits f t.program) ≡ None)
IsAnswerFor end f (Err (Form at)) = IsFirstWrong end (clamped_trees f) at
IsAnswerFor end f (Err (Limit at)) = (t : Source) × HasForms (clamped_trees f) t
    × (least (program_limits f t.program) ≡ Some at)
IsAnswerFor end f (Err NoMemory) = ⊥

-- A result is this answer, or memory ran out.
abbrev pub Answers : {X : Type 0} → (X → Source) → Result X FormStop → Result Source FormStop → Type 0
Answers view (Ok x) r = r ≡ Ok (view x)
Answers view (Err (Form at)) r = r ≡ Err (Form at)
Answers view (Err (Limit at)) r = r ≡ Err (Limit at)
Answers view (Err NoMemory) r = Unit {0}
