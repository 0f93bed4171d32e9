-- Changes that keep the reads of each group.
use Rattle.std.proofs.Common.{◌≡◌, ◌<◌, ℕ, zero, suc, ◌+◌, List, [], ◌∷◌, ◌++◌, length, length-drop, map, take, drop, get_or, refl, ap, ◌∙◌, sym, arith}
use Rattle.std.proofs.lemmas.List.{length-map, get_or-drop}
use Rattle.std.proofs.Math.Seq.{map-set_same, take-suc}
use Rattle.rt_groups.specs.declared.groups.Group.{Group}
use Rattle.slot_table.specs.TableGroups.{group_at}
use Rattle.slot_table.specs.KeptRuns.{set_all}

-- The reads of each group.
abbrev reads_of : List Group → List (List ℕ)
reads_of gs = map (λ g. g.reads) gs

-- Lists of the same length have the same reads if the groups at each index have the same reads.
pub same_at_each : (gs others : List Group) → length gs ≡ length others
    → ((k : ℕ) → k < length gs → (group_at gs k).reads ≡ (group_at others k).reads)
    → map (λ g. g.reads) gs ≡ map (λ g. g.reads) others
same_at_each [] [] long same = refl
same_at_each [] (y ∷ others) long same = absurd (omega (arith, long))
same_at_each (x ∷ gs) [] long same = absurd (omega (arith, long))
same_at_each (x ∷ gs) (y ∷ others) long same =
    ap (λ r. r ∷ reads_of gs) (same 0 (omega arith))
    ∙ ap (λ l. y.reads ∷ l) (same_at_each gs others (omega (arith, long)) (λ k inside. same (suc k)
    (omega (arith, inside))))

-- Equal lists of reads have the same reads at each index.
reads_at : (gs others : List Group) → reads_of gs ≡ reads_of others → (k : ℕ)
    → (group_at gs k).reads ≡ (group_at others k).reads
reads_at [] [] same k = refl
reads_at [] (y ∷ others) same k = absurd cc
reads_at (x ∷ gs) [] same k = absurd cc
reads_at (x ∷ gs) (y ∷ others) same zero = cc
reads_at (x ∷ gs) (y ∷ others) same (suc k) =
    let rest : reads_of gs ≡ reads_of others = cc in reads_at gs others rest k

-- New groups with the reads of the old groups at their places keep the reads of each group.
pub set_all_keeps_reads : (olds : List Group) (ps : List ℕ) (gs : List Group)
    → ((k : ℕ) → k < length gs → (group_at gs k).reads ≡ (group_at olds (get_or ps k 0)).reads)
    → map (λ g. g.reads) (set_all olds ps gs) ≡ map (λ g. g.reads) olds
set_all_keeps_reads olds [] gs same = refl
set_all_keeps_reads olds (p ∷ ps) [] same = refl
set_all_keeps_reads olds (p ∷ ps) (g ∷ gs) same =
    let later : reads_of (set_all olds ps gs) ≡ reads_of olds =
    set_all_keeps_reads olds ps gs (λ k inside. same (suc k) (omega (arith, inside))) in
    map-set_same (λ g. g.reads) (set_all olds ps gs) p g (group_at [] 0)
    (same 0 (omega arith) ∙ sym (reads_at (set_all olds ps gs) olds later p))
    ∙ later

-- The reads of the group at an index.
read_at : (gs : List Group) (k : ℕ) → get_or (reads_of gs) k [] ≡ (group_at gs k).reads
read_at [] k = refl
read_at (g ∷ gs) zero = refl
read_at (g ∷ gs) (suc k) = read_at gs k

-- The reads of a run with one more group.
reads_grow : (gs : List Group) (from i : ℕ) → from + i < length gs
    → take (i + 1) (drop from (reads_of gs)) ≡ take i (drop from (reads_of gs)) ++ (group_at gs (from + i)).reads ∷ []
reads_grow gs from i inside =
    let next : i + 1 ≡ suc i = omega arith in
    let rest = length-drop from (reads_of gs) in
    let long : length (reads_of gs) ≡ length gs = length-map gs (λ g. g.reads) in
    ap (λ n. take n (drop from (reads_of gs))) next
    ∙ take-suc (drop from (reads_of gs)) i [] (omega (arith, rest, long, inside))
    ∙ ap (λ r. take i (drop from (reads_of gs)) ++ r ∷ [])
    (get_or-drop from (reads_of gs) i [] ∙ read_at gs (from + i))

-- Two runs with the same reads, and one more group each.
pub same_reads_grow : (gs : List Group) (at from i : ℕ) → at + i < length gs → from + i < length gs
    → (group_at gs (from + i)).reads ≡ (group_at gs (at + i)).reads
    → take i (drop at (map (λ g. g.reads) gs)) ≡ take i (drop from (map (λ g. g.reads) gs))
    → take (i + 1) (drop at (map (λ g. g.reads) gs)) ≡ take (i + 1) (drop from (map (λ g. g.reads) gs))
same_reads_grow gs at from i inside inside' read same =
    reads_grow gs at i inside
    ∙ ap (λ l. l ++ (group_at gs (at + i)).reads ∷ []) same
    ∙ ap (λ r. take i (drop from (reads_of gs)) ++ r ∷ []) (sym read)
    ∙ sym (reads_grow gs from i inside')
