-- Trusted: how far a form extends in a source text.
use Rattle.std.specs.Prelude.{ℕ, suc, ◌-◌, ◌==◌, Bool, false, List, [], ◌∷◌, if◌then◌else◌}
use Rattle.fault_notes.specs.declared.scanner.Mode.{Mode}
use Rattle.fault_notes.specs.declared.scanner.Mode.TheVariants.{Plain, Quoted, Escaped, Comment}

-- What the byte after `b` belongs to: 34 is a quote, 59 begins a comment, 92 is a backslash, and 10 is a line break.
abbrev pub next_mode : Mode → ℕ → Mode
next_mode Plain b = if b == 34 then Quoted else if b == 59 then Comment else Plain
next_mode Quoted b = if b == 34 then Plain else if b == 92 then Escaped else Quoted
next_mode Escaped b = Quoted
next_mode Comment b = if b == 10 then Plain else Comment

-- The number of open lists after `b`: 40 opens a list, and 41 closes one.
abbrev pub next_depth : ℕ → Mode → ℕ → ℕ
next_depth depth Plain b = if b == 40 then suc depth else if b == 41 then depth - 1 else depth
next_depth depth Quoted b = depth
next_depth depth Escaped b = depth
next_depth depth Comment b = depth

-- Whether a form has ended.
abbrev pub is_complete : ℕ → Mode → Bool
is_complete depth Plain = depth == 0
is_complete depth Quoted = false
is_complete depth Escaped = false
is_complete depth Comment = false

-- The number of bytes to the end of a form, in which `depth` lists are open.
abbrev pub rest_of_form : ℕ → Mode → List ℕ → ℕ
rest_of_form depth mode [] = 0
rest_of_form depth mode (b ∷ bs) =
    if is_complete (next_depth depth mode b) (next_mode mode b) then 1
    else suc (rest_of_form (next_depth depth mode b) (next_mode mode b) bs)

-- The length of the form with which the bytes begin: a list to its parenthesis, a string to its quote, and one byte of an
-- atom. A form that is not closed extends to the end.
abbrev pub form_length : List ℕ → ℕ
form_length bytes = rest_of_form 0 Plain bytes
