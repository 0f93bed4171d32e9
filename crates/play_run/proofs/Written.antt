-- What was written, piece by piece.
use Rattle.std.proofs.Common.{◌≡◌, ◌<◌, ◌+◌, ℕ, List, Bool, length, drop, ◌++◌, ◌∙◌, ap, subst, append_assoc, append-nil, sym, [], Option, Some, None, Ok, Err, OnOk, OnErr}
use Rattle.std.proofs.lemmas.List.{drop_more}
use Rattle.std.specs.declared.result.Result.{Result}
use Rattle.std.specs.Io.KnownBytes.{Appends}
use Rattle.std.proofs.KnownBytes.{Appends-trans}
use Rattle.rt_streams.specs.Streams.{AppendsPart}
use Rattle.rt_streams.proofs.Parts.{part-behind, part-front}
use Rattle.rt_values.specs.Values.{no_value}
use Rattle.rt_groups.specs.declared.groups.Group.{Group}
use Rattle.rt_groups.specs.declared.groups.GroupKind.TheVariants as what
use Rattle.rt_groups.specs.PreorderGroups.{flat_group}
use Rattle.slot_table.specs.TableGroups.{group_at}
use Rattle.script_lang.specs.GroupLines.{group_lines, group_line, open_after}
use Rattle.play_run.specs.RunPromise.{WritesBytes}

-- Some bytes were written, then a part of the next piece.
pub part_next : (a b c : Option (List ℕ)) (said piece more all : List ℕ) → said ++ (piece ++ more) ≡ all
    → Appends a b said → AppendsPart b c piece → AppendsPart a c all
part_next a b c said piece more all e done part =
    subst (AppendsPart a c) e (part-behind a b c said (piece ++ more) done (part-front b c piece more part))

-- Some bytes were written, then the next piece.
pub record Next (a c : Option (List ℕ)) (said piece more all : List ℕ) : Type 0 where
  pub split : (said ++ piece) ++ more ≡ all
  pub wrote : Appends a c (said ++ piece)

pub all_next : (a b c : Option (List ℕ)) (said piece more all : List ℕ) → said ++ (piece ++ more) ≡ all
    → Appends a b said → Appends b c piece → Next a c said piece more all
all_next a b c said piece more all e done whole =
    record { split = append_assoc said piece more ∙ e; wrote = Appends-trans a b c said piece done whole }

-- One piece was written, then the rest as `Says` states it.
pub says_behind : {T E : Type 0} (r : Result T E) (a b c : Option (List ℕ)) (xs ys : List ℕ) → Appends a b xs
    → WritesBytes b c ys r → WritesBytes a c (xs ++ ys) r
says_behind (Ok x) a b c xs ys done says = record { all = Appends-trans a b c xs ys done says.all; part = tt }
says_behind (Err e) a b c xs ys done says = record { all = tt; part = part-behind a b c xs ys done says.part }

-- A part of the first bytes is a part of all bytes.
pub says_front : {T U E F : Type 0} (e : E) (f : F) (a b : Option (List ℕ)) (xs ys : List ℕ)
    → WritesBytes {T = T} {E = E} a b xs (Err e) → WritesBytes {T = U} {E = F} a b (xs ++ ys) (Err f)
says_front e f a b xs ys says = record { all = tt; part = part-front a b xs ys says.part }

-- A fact that is always true is true after Ok.
pub anyway : {T E P : Type 0} (r : Result T E) → P → OnOk r P
anyway (Ok x) p = p
anyway (Err e) p = tt

-- A consequence of a fact after an error.
pub after_error : {T E P Q : Type 0} (r : Result T E) → (P → Q) → OnErr r P → OnErr r Q
after_error (Ok x) f p = tt
after_error (Err e) f p = f p

-- Equal bytes.
pub appends_same : (a b : Option (List ℕ)) (xs ys : List ℕ) → xs ≡ ys → Appends a b xs → Appends a b ys
appends_same a b xs ys e h = subst (Appends a b) e h

pub says_same : {T E : Type 0} (r : Result T E) (a b : Option (List ℕ)) (xs ys : List ℕ) → xs ≡ ys
    → WritesBytes a b xs r → WritesBytes a b ys r
says_same r a b xs ys e h = subst (λ l. WritesBytes a b l r) e h

-- The line of the group at an index, then those of the groups after it.
pub group_lines_at : (before : List Bool) (gs : List Group) (i : ℕ) → i < length gs
    → group_lines before (drop i gs)
    ≡ group_line before (group_at gs i) ++ group_lines (open_after before (group_at gs i)) (drop (i + 1) gs)
group_lines_at before gs i h = ap (group_lines before) (drop_more gs i (flat_group 0 0 0 (what.Key no_value) []) h)

-- Nothing was written, and nothing had to be.
pub appends_none : (a : Option (List ℕ)) → Appends a a []
appends_none None = tt
appends_none (Some bytes) = sym (append-nil bytes)

pub says_none : {T E : Type 0} (a : Option (List ℕ)) (x : T) → WritesBytes {T = T} {E = E} a a [] (Ok x)
says_none a x = record { all = appends_none a; part = tt }

-- Nothing after a text.
pub nothing_after : (xs : List ℕ) → xs ++ [] ≡ xs
nothing_after xs = append-nil xs
