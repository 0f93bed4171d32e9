-- The groups of two buffers, part by part.
use Rattle.std.proofs.Common.{◌≡◌, ◌<◌, ℕ, zero, suc, Bool, false, List, [], ◌∷◌, ◌++◌, length, map, get_or, set, refl, sym, subst, ap, ◌∙◌, arith}
use Rattle.std.proofs.Common.{length-set}
use Rattle.std.proofs.lemmas.List.{map-append, map-set, length-append}
use Rattle.rt_groups.specs.declared.groups.Group.{Group}
use Rattle.rt_groups.specs.PreorderGroups.{flat_group}
use Rattle.slot_table.specs.declared.storage.GroupHead.{GroupHead}
use Rattle.slot_table.specs.SharedSlots.{GroupSlots}
use Rattle.slot_table.specs.TableGroups.{group_at, is_node_kind, with_reads}
use Rattle.slot_table.specs.Storage.{joined_groups, KnowNodes, AreParts, IsPopped}

pub joined_count : (hs : List GroupHead) (ss : List GroupSlots) → length hs ≡ length ss
    → length (joined_groups hs ss) ≡ length hs
joined_count [] ss e = refl
joined_count (h ∷ hs) [] e = absurd (omega (arith, e))
joined_count (h ∷ hs) (s ∷ ss) e = ap suc (joined_count hs ss (omega (arith, e)))

abbrev first_of : List Bool → Bool
first_of [] = false
first_of (b ∷ bs) = b

abbrev rest_of : List Bool → List Bool
rest_of [] = []
rest_of (b ∷ bs) = bs

-- The head of a group records whether the group at its index is a node.
node_at : (hs : List GroupHead) (ss : List GroupSlots) (i : ℕ) (h : GroupHead) (d : Group) → KnowNodes hs ss
    → length hs ≡ length ss → i < length hs
    → (get_or hs i h).is_node ≡ is_node_kind (get_or (joined_groups hs ss) i d).what
node_at [] ss i h d known e lt = absurd (omega (arith, lt))
node_at (x ∷ hs) [] i h d known e lt = absurd (omega (arith, e))
node_at (x ∷ hs) (y ∷ ss) zero h d known e lt = ap first_of known
node_at (x ∷ hs) (y ∷ ss) (suc i) h d known e lt =
    node_at hs ss i h d (ap rest_of known) (omega (arith, e)) (omega (arith, lt))

-- The parts of the group at an index.
head_at : (hs : List GroupHead) (ss : List GroupSlots) (i : ℕ) (h : GroupHead) (d : Group) → length hs ≡ length ss
    → i < length hs
    → ((get_or hs i h).depth ≡ (get_or (joined_groups hs ss) i d).depth)
    × ((get_or hs i h).site ≡ (get_or (joined_groups hs ss) i d).site)
    × ((get_or hs i h).number ≡ (get_or (joined_groups hs ss) i d).number)
head_at [] ss i h d e lt = absurd (omega (arith, lt))
head_at (x ∷ hs) [] i h d e lt = absurd (omega (arith, e))
head_at (x ∷ hs) (y ∷ ss) zero h d e lt = (refl, refl, refl)
head_at (x ∷ hs) (y ∷ ss) (suc i) h d e lt = head_at hs ss i h d (omega (arith, e)) (omega (arith, lt))

slot_at : (hs : List GroupHead) (ss : List GroupSlots) (i : ℕ) (s : GroupSlots) (d : Group) → length hs ≡ length ss
    → i < length hs
    → ((get_or ss i s).what ≡ (get_or (joined_groups hs ss) i d).what)
    × ((get_or ss i s).reads ≡ (get_or (joined_groups hs ss) i d).reads)
slot_at [] ss i s d e lt = absurd (omega (arith, lt))
slot_at (x ∷ hs) [] i s d e lt = absurd (omega (arith, e))
slot_at (x ∷ hs) (y ∷ ss) zero s d e lt = (refl, refl)
slot_at (x ∷ hs) (y ∷ ss) (suc i) s d e lt = slot_at hs ss i s d (omega (arith, e)) (omega (arith, lt))

pub inside_heads : (gs : List Group) (hs : List GroupHead) (ss : List GroupSlots) (i : ℕ) → joined_groups hs ss ≡ gs
    → length hs ≡ length ss → i < length gs → i < length hs
inside_heads gs hs ss i is e lt = let count = joined_count hs ss e in let same = ap (λ l. length l) is in
    omega (arith, count, same, lt)

pub head_is : (gs : List Group) (hs : List GroupHead) (ss : List GroupSlots) (i : ℕ) (h : GroupHead)
    → joined_groups hs ss ≡ gs → length hs ≡ length ss → i < length gs → h ≡ get_or hs i h
    → (h.depth ≡ (group_at gs i).depth) × (h.site ≡ (group_at gs i).site) × (h.number ≡ (group_at gs i).number)
head_is gs hs ss i h is e lt at =
    let parts = head_at hs ss i h (group_at [] i) e (inside_heads gs hs ss i is e lt) in (
      ap (λ x. x.depth) at ∙ parts.0 ∙ ap (λ l. (group_at l i).depth) is,
      ap (λ x. x.site) at ∙ parts.1 ∙ ap (λ l. (group_at l i).site) is,
      ap (λ x. x.number) at ∙ parts.2 ∙ ap (λ l. (group_at l i).number) is,
    )

pub slot_is : (gs : List Group) (hs : List GroupHead) (ss : List GroupSlots) (i : ℕ) (s : GroupSlots)
    → joined_groups hs ss ≡ gs → length hs ≡ length ss → i < length gs → s ≡ get_or ss i s
    → (s.what ≡ (group_at gs i).what) × (s.reads ≡ (group_at gs i).reads)
slot_is gs hs ss i s is e lt at =
    let parts = slot_at hs ss i s (group_at [] i) e (inside_heads gs hs ss i is e lt) in (
      ap (λ x. x.what) at ∙ parts.0 ∙ ap (λ l. (group_at l i).what) is,
      ap (λ x. x.reads) at ∙ parts.1 ∙ ap (λ l. (group_at l i).reads) is,
    )

pub node_is : (gs : List Group) (hs : List GroupHead) (ss : List GroupSlots) (i : ℕ) (h : GroupHead)
    → joined_groups hs ss ≡ gs → KnowNodes hs ss → length hs ≡ length ss → i < length gs → h ≡ get_or hs i h
    → h.is_node ≡ is_node_kind (group_at gs i).what
node_is gs hs ss i h is known e lt at =
    ap (λ x. x.is_node) at
    ∙ node_at hs ss i h (group_at [] i) known e (inside_heads gs hs ss i is e lt)
    ∙ ap (λ l. is_node_kind (group_at l i).what) is

joined_last : (hs : List GroupHead) (ss : List GroupSlots) (h : GroupHead) (s : GroupSlots) → length hs ≡ length ss
    → joined_groups (hs ++ h ∷ []) (ss ++ s ∷ []) ≡ joined_groups hs ss
    ++ flat_group h.depth h.site h.number s.what s.reads ∷ []
joined_last [] [] h s e = refl
joined_last [] (y ∷ ss) h s e = absurd (omega (arith, e))
joined_last (x ∷ hs) [] h s e = absurd (omega (arith, e))
joined_last (x ∷ hs) (y ∷ ss) h s e =
    ap (λ l. flat_group x.depth x.site x.number y.what y.reads ∷ l) (joined_last hs ss h s (omega (arith, e)))

known_last : (hs : List GroupHead) (ss : List GroupSlots) (h : GroupHead) (s : GroupSlots) → KnowNodes hs ss
    → h.is_node ≡ is_node_kind s.what → KnowNodes (hs ++ h ∷ []) (ss ++ s ∷ [])
known_last hs ss h s known same =
    map-append (λ x. x.is_node) hs (h ∷ [])
    ∙ ap (λ l. l ++ h.is_node ∷ []) known
    ∙ ap (λ b. map (λ x. is_node_kind x.what) ss ++ b ∷ []) same
    ∙ sym (map-append (λ x. is_node_kind x.what) ss (s ∷ []))

long_last : (hs : List GroupHead) (ss : List GroupSlots) (h : GroupHead) (s : GroupSlots) → length hs ≡ length ss
    → length (hs ++ h ∷ []) ≡ length (ss ++ s ∷ [])
long_last hs ss h s e = let one = length-append hs (h ∷ []) in let other = length-append ss (s ∷ []) in
    omega (arith, one, other, e)

-- Equal heads and equal slots are parts of the same groups.
pub same_parts : (hs hs' : List GroupHead) (ss ss' : List GroupSlots) (gs : List Group) → hs' ≡ hs → ss' ≡ ss
    → AreParts hs ss gs → AreParts hs' ss' gs
same_parts hs hs' ss ss' gs eh es parts =
    subst (λ l. AreParts l ss' gs) (sym eh) (subst (λ l. AreParts hs l gs) (sym es) parts)

-- There are as many heads as groups.
pub heads_long : (hs : List GroupHead) (ss : List GroupSlots) (gs : List Group) → AreParts hs ss gs
    → length hs ≡ length gs
heads_long hs ss gs parts = sym (joined_count hs ss parts.long) ∙ ap (λ l. length l) parts.joined

-- A group is appended by appending its head and its slots.
pub parts_after : (hs : List GroupHead) (ss : List GroupSlots) (gs : List Group) (h : GroupHead) (s : GroupSlots)
    → AreParts hs ss gs → h.is_node ≡ is_node_kind s.what
    → AreParts (hs ++ h ∷ []) (ss ++ s ∷ []) (gs ++ flat_group h.depth h.site h.number s.what s.reads ∷ [])
parts_after hs ss gs h s parts same = record {
  joined = joined_last hs ss h s parts.long
      ∙ ap (λ l. l ++ flat_group h.depth h.site h.number s.what s.reads ∷ []) parts.joined;
  long = long_last hs ss h s parts.long;
  nodes = known_last hs ss h s parts.nodes same;
}

-- A push of a head and a push of slots append a group.
pub parts_pushed : (hs hs' : List GroupHead) (ss ss' : List GroupSlots) (gs : List Group) (h : GroupHead)
    (s : GroupSlots) (g : Group) → AreParts hs ss gs → h.is_node ≡ is_node_kind s.what
    → hs' ≡ hs ++ h ∷ [] → ss' ≡ ss ++ s ∷ [] → flat_group h.depth h.site h.number s.what s.reads ≡ g
    → AreParts hs' ss' (gs ++ g ∷ [])
parts_pushed hs hs' ss ss' gs h s g parts same eh es eg =
    subst (λ l. AreParts l ss' (gs ++ g ∷ [])) (sym eh)
    (subst (λ l. AreParts (hs ++ h ∷ []) l (gs ++ g ∷ [])) (sym es)
    (subst (λ x. AreParts (hs ++ h ∷ []) (ss ++ s ∷ []) (gs ++ x ∷ [])) eg (parts_after hs ss gs h s parts same)))

-- The group at an index does not depend on the default.
pub at_is : (gs : List Group) (i : ℕ) → i < length gs → group_at gs i ≡ get_or gs i (group_at gs i)
at_is gs i inside = same_default gs i (group_at [] i) (group_at gs i) inside where
  same_default : (gs : List Group) (i : ℕ) (d e : Group) → i < length gs → get_or gs i d ≡ get_or gs i e
  same_default [] i d e inside = absurd (omega (arith, inside))
  same_default (g ∷ gs) zero d e inside = refl
  same_default (g ∷ gs) (suc i) d e inside = same_default gs i d e (omega (arith, inside))

-- Replacing the reads of the group at an index replaces the group in the joined list.
joined_set : (hs : List GroupHead) (ss : List GroupSlots) (i : ℕ) (s : GroupSlots) (d : Group) → length hs ≡ length ss
    → i < length hs → s.what ≡ (get_or (joined_groups hs ss) i d).what
    → joined_groups hs (set ss i s) ≡ set (joined_groups hs ss) i
    (with_reads (get_or (joined_groups hs ss) i d) s.reads)
joined_set [] ss i s d e lt same = absurd (omega (arith, lt))
joined_set (x ∷ hs) [] i s d e lt same = absurd (omega (arith, e))
joined_set (x ∷ hs) (y ∷ ss) zero s d e lt same =
    ap (λ k. flat_group x.depth x.site x.number k s.reads ∷ joined_groups hs ss) same
joined_set (x ∷ hs) (y ∷ ss) (suc i) s d e lt same = ap (λ l. flat_group x.depth x.site x.number y.what y.reads ∷ l)
    (joined_set hs ss i s d (omega (arith, e)) (omega (arith, lt)) same)

kinds_set : (ss : List GroupSlots) (i : ℕ) (s d : GroupSlots) → i < length ss → s.what ≡ (get_or ss i d).what
    → map (λ x. is_node_kind x.what) (set ss i s) ≡ map (λ x. is_node_kind x.what) ss
kinds_set [] i s d lt same = absurd (omega (arith, lt))
kinds_set (y ∷ ss) zero s d lt same = ap (λ k. is_node_kind k ∷ map (λ x. is_node_kind x.what) ss) same
kinds_set (y ∷ ss) (suc i) s d lt same = ap (λ l. is_node_kind y.what ∷ l) (kinds_set ss i s d (omega (arith, lt)) same)

pub set_parts : (hs : List GroupHead) (ss : List GroupSlots) (gs : List Group) (i : ℕ) (s old : GroupSlots)
    (reads : List ℕ) → AreParts hs ss gs → i < length gs → old ≡ get_or ss i old → s.what ≡ old.what → s.reads ≡ reads
    → AreParts hs (set ss i s) (set gs i (with_reads (group_at gs i) reads))
set_parts hs ss gs i s old reads parts inside is what own =
    let within = inside_heads gs hs ss i parts.joined parts.long inside in
    let long = parts.long in
    let kind = what ∙ (slot_is gs hs ss i old parts.joined parts.long inside is).0 in
    record {
      joined = joined_set hs ss i s (group_at [] i) long within
          (kind ∙ ap (λ l. (group_at l i).what) (sym parts.joined))
          ∙ ap (λ l. set l i (with_reads (group_at l i) s.reads)) parts.joined
          ∙ ap (λ r. set gs i (with_reads (group_at gs i) r)) own;
      long = parts.long ∙ sym (length-set ss i s);
      nodes = parts.nodes ∙ sym (kinds_set ss i s old (omega (arith, within, long)) (what ∙ ap (λ x. x.what) is));
    }

joined_put : (hs : List GroupHead) (ss : List GroupSlots) (i : ℕ) (h : GroupHead) (s : GroupSlots)
    → length hs ≡ length ss → joined_groups (set hs i h) (set ss i s)
    ≡ set (joined_groups hs ss) i (flat_group h.depth h.site h.number s.what s.reads)
joined_put [] [] i h s e = refl
joined_put [] (y ∷ ss) i h s e = absurd (omega (arith, e))
joined_put (x ∷ hs) [] i h s e = absurd (omega (arith, e))
joined_put (x ∷ hs) (y ∷ ss) zero h s e = refl
joined_put (x ∷ hs) (y ∷ ss) (suc i) h s e = ap (λ l. flat_group x.depth x.site x.number y.what y.reads ∷ l)
    (joined_put hs ss i h s (omega (arith, e)))

-- A group is replaced by replacing its head and its slots.
pub put_parts : (hs hs' : List GroupHead) (ss ss' : List GroupSlots) (gs : List Group) (i : ℕ) (h : GroupHead)
    (s : GroupSlots) → AreParts hs ss gs → h.is_node ≡ is_node_kind s.what → hs' ≡ set hs i h → ss' ≡ set ss i s
    → AreParts hs' ss' (set gs i (flat_group h.depth h.site h.number s.what s.reads))
put_parts hs hs' ss ss' gs i h s parts same eh es =
    let g : Group = flat_group h.depth h.site h.number s.what s.reads in
    subst (λ l. AreParts l ss' (set gs i g)) (sym eh)
    (subst (λ l. AreParts (set hs i h) l (set gs i g)) (sym es) (record {
      joined = joined_put hs ss i h s parts.long ∙ ap (λ l. set l i g) parts.joined;
      long = length-set hs i h ∙ parts.long ∙ sym (length-set ss i s);
      nodes = map-set (λ x. x.is_node) hs i h ∙ ap (λ l. set l i h.is_node) parts.nodes
          ∙ ap (λ b. set (map (λ x. is_node_kind x.what) ss) i b) same
          ∙ sym (map-set (λ x. is_node_kind x.what) ss i s);
    }))

known_front : (hs : List GroupHead) (ss : List GroupSlots) (h : GroupHead) (s : GroupSlots) → length hs ≡ length ss
    → KnowNodes (hs ++ h ∷ []) (ss ++ s ∷ []) → KnowNodes hs ss × (h.is_node ≡ is_node_kind s.what)
known_front [] [] h s e known = (refl, ap first_of known)
known_front [] (y ∷ ss) h s e known = absurd (omega (arith, e))
known_front (x ∷ hs) [] h s e known = absurd (omega (arith, e))
known_front (x ∷ hs) (y ∷ ss) h s e known =
    let later = known_front hs ss h s (omega (arith, e)) (ap rest_of known) in (
      ap (λ b. b ∷ map (λ x. x.is_node) hs) (ap first_of known)
          ∙ ap (λ l. is_node_kind y.what ∷ l) later.0,
      later.1,
    )

-- The last group is removed by removing its head and its slots.
pub record ArePopped (hs : List GroupHead) (ss : List GroupSlots) (h : GroupHead) (s : GroupSlots) (gs : List Group)
    : Type 0 where
  pub long : length hs ≡ length ss
  pub nodes : KnowNodes hs ss
  pub popped : IsPopped h s gs (joined_groups hs ss)

pub popped_parts : (hs hs' : List GroupHead) (ss ss' : List GroupSlots) (gs : List Group) (h : GroupHead)
    (s : GroupSlots) → AreParts hs ss gs → hs ≡ hs' ++ h ∷ [] → ss ≡ ss' ++ s ∷ [] → ArePopped hs' ss' h s gs
popped_parts hs hs' ss ss' gs h s parts eh es =
    let whole : AreParts (hs' ++ h ∷ []) (ss' ++ s ∷ []) gs =
    subst (λ l. AreParts l (ss' ++ s ∷ []) gs) eh (subst (λ l. AreParts hs l gs) es parts) in
    let one = length-append hs' (h ∷ []) in
    let two = length-append ss' (s ∷ []) in
    let both = whole.long in
    let long : length hs' ≡ length ss' = omega (arith, one, two, both) in
    let known = known_front hs' ss' h s long whole.nodes in
    record {
      long = long;
      nodes = known.0;
      popped = record { last = sym whole.joined ∙ joined_last hs' ss' h s long; node = known.1 };
    }
