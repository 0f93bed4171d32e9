-- Trusted: queues of old siblings, and the match of each new sibling.
use Rattle.std.specs.Prelude.{ℕ, zero, suc, ◌+◌, ◌==◌, ℤ, pos, negsuc, ◌-ℤ◌, List, [], ◌∷◌, ◌++◌, Option, Some, None, option_to_list, slice_get, slice_index_or, if◌then◌else◌}
use Rattle.std.specs.Option.{option_map_or}
use Rattle.indexmap.specs.IndexMap.{get}
use Rattle.rt_values.specs.declared.value.Value.{Value}
use Rattle.rt_values.specs.declared.value.Value.TheVariants as value
use Rattle.rt_groups.specs.Paths.{GroupKey, same_sibling, occurrence}
use Rattle.group_keys.specs.declared.numbered.NumberedSiblings.{NumberedSiblings}
use Rattle.group_keys.specs.declared.queues.Queue.{Queue}
use Rattle.group_keys.specs.declared.queues.SiblingQueues.{SiblingQueues}

-- The indexes in a queue, in order.
abbrev pub queued_indexes : Queue → List ℕ
queued_indexes q = option_map_or (λ i. i ∷ q.later.items) q.first q.later.items

-- The indexes that the map has for the siblings with this site and key, in order.
abbrev pub mapped_queue : SiblingQueues → GroupKey → List ℕ
mapped_queue p s = option_map_or queued_indexes (get same_sibling p.queues s) []

-- An integer as a natural number, unless it is negative.
abbrev pub natural : ℤ → Option ℕ
natural (pos n) = Some n
natural (negsuc n) = None

-- How far the number of a key is above the lowest number. A key that is no number, or a lower one, has no offset.
abbrev pub key_offset : ℤ → Option Value → Option ℕ
key_offset lowest None = None
key_offset lowest (Some (value.Int z)) = natural (z -ℤ lowest)
key_offset lowest (Some (value.Bool b)) = None
key_offset lowest (Some (value.Text t)) = None
key_offset lowest (Some (value.Ints l)) = None

-- The offset of a sibling's entry in a list for one site, from the lowest number on.
abbrev pub sibling_offset : ℕ → ℤ → GroupKey → Option ℕ
sibling_offset site lowest s = if s.site == site then key_offset lowest s.key else None

-- The index in an entry: 0 is no index, and i + 1 is the index i.
abbrev pub entry_index : ℕ → Option ℕ
entry_index zero = None
entry_index (suc i) = Some i

-- The index that the list has for the sibling, if any. An offset past the end of the list has no index.
abbrev pub listed_index : NumberedSiblings → GroupKey → Option ℕ
listed_index n s =
    entry_index (option_map_or (λ k. slice_index_or n.entries.items k 0) (sibling_offset n.site n.lowest s) 0)

-- The queued indexes of the old siblings with this site and key, in order: the listed one comes first.
unfoldable pub queue_of : SiblingQueues → GroupKey → List ℕ
queue_of p s = option_to_list (listed_index p.numbered s) ++ mapped_queue p s

-- The indexes, from k, of the siblings with the site and key of s.
abbrev pub indexes_of : ℕ → List GroupKey → GroupKey → List ℕ
indexes_of k [] s = []
indexes_of k (o ∷ os) s = if same_sibling o s then k ∷ indexes_of (k + 1) os s else indexes_of (k + 1) os s

-- For each new sibling, after the siblings `seen`, the index of the old sibling with equal site, key and occurrence.
abbrev pub matched_indexes : List GroupKey → List GroupKey → List GroupKey → List (Option ℕ)
matched_indexes olds seen [] = []
matched_indexes olds seen (s ∷ ss) =
    slice_get (indexes_of 0 olds s) (occurrence s seen) ∷ matched_indexes olds (s ∷ seen) ss
