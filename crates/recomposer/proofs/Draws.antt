-- The watchers of the takes that a frame adds to a log.
use Rattle.std.proofs.Common.{◌≡◌, ℕ, List, [], ◌∷◌, ◌++◌, map, refl, sym, ap, ◌∙◌, subst, Option, Some, None, append_assoc, append-nil}
use Rattle.snap_api.specs.Calls.{Logs}
use Rattle.snap_api.specs.DeskReads.{AskedAndLogged, LogsReadsIn, call_of, reads_of}
use Rattle.snap_api.specs.declared.data.Entry.{Entry}
use Rattle.snap_api.specs.declared.data.Refusal.TheVariants as refusal
use Rattle.snap_api.specs.declared.data.Reply.{Reply}
use Rattle.snap_api.specs.declared.data.Reply.TheVariants as reply
use Rattle.snap_api.specs.declared.data.Request.{Request}
use Rattle.snap_api.specs.declared.data.Request.TheVariants as request
use Rattle.recomposer.specs.Compositions.{IsTakeOnlyFor, TakesOnlyFor, GrownFor, GrowsFor}

only_append : (n : ℕ) (xs ys : List Entry) → TakesOnlyFor n xs → TakesOnlyFor n ys → TakesOnlyFor n (xs ++ ys)
only_append n [] ys h k = k
only_append n (x ∷ xs) ys h k = (h.0, only_append n xs ys h.1 k)

grows_none : (n : ℕ) (old : Option (List Entry)) → GrowsFor n old old
grows_none n None = refl
grows_none n (Some h) = record { more = []; log_is = ap (λ (l : List Entry). Some l) (sym (append-nil h)); only = tt }

none_some : {x : List Entry} → None ≡ Some x → ⊥
none_some e = cc

-- A log that grew twice.
pub grows_on : (n : ℕ) (old mid new : Option (List Entry)) → GrowsFor n old mid → GrowsFor n mid new
    → GrowsFor n old new
grows_on n None None new h k = k
grows_on n None (Some m) new h k = absurd cc
grows_on n (Some o) None new h k = absurd (none_some h.log_is)
grows_on n (Some o) (Some m) new h k =
    let same : m ≡ o ++ h.more = cc in
    record {
      more = h.more ++ k.more;
      log_is = k.log_is ∙ ap (λ (l : List Entry). Some (l ++ k.more)) same
          ∙ ap (λ (l : List Entry). Some l) (append_assoc o h.more k.more);
      only = only_append n h.more k.more h.only k.only;
    }

-- A log after one call.
module _ (n a : ℕ) (q : Request) (d : IsTakeOnlyFor n q) where
  one : (r : Reply) (h : List Entry) (new : Option (List Entry))
      → new ≡ Some (h ++ record { caller = a; request = q; reply = r } ∷ []) → GrownFor n h new
  one r h new e = record { more = record { caller = a; request = q; reply = r } ∷ []; log_is = e; only = (d, tt) }

  pub grows_call : (old new : Option (List Entry)) (r : Reply) → Logs old new a q r → GrowsFor n old new
  grows_call None new r l = l
  grows_call (Some h) new (reply.Refused refusal.NoMemory) l =
      record { more = []; log_is = l ∙ ap (λ (x : List Entry). Some x) (sym (append-nil h)); only = tt }
  grows_call (Some h) new (reply.Refused r) l = one (reply.Refused r) h new l
  grows_call (Some h) new (reply.Taken x) l = one (reply.Taken x) h new l
  grows_call (Some h) new (reply.TakenFor x y) l = one (reply.TakenFor x y) h new l
  grows_call (Some h) new (reply.Got v) l = one (reply.Got v) h new l
  grows_call (Some h) new (reply.Wrote b) l = one (reply.Wrote b) h new l
  grows_call (Some h) new reply.Applied l = one reply.Applied h new l
  grows_call (Some h) new reply.Disposed l = one reply.Disposed h new l

abbrev head_request : Request → List (ℕ × Request) → Request
head_request q [] = q
head_request q (y ∷ ys) = y.1

abbrev tail_of : List (ℕ × Request) → List (ℕ × Request)
tail_of [] = []
tail_of (y ∷ ys) = ys

-- The first of logged reads, and the others.
pub read_first : (a name o : ℕ) (xs : List ℕ) (x : Entry) (more : List Entry)
    → map call_of (x ∷ more) ≡ reads_of a name (o ∷ xs)
    → (x.request ≡ request.Read name o) × (map call_of more ≡ reads_of a name xs)
read_first a name o xs x more e = (ap (λ l. head_request x.request l) e, ap tail_of e)

reads_only : (n a name : ℕ) (xs : List ℕ) (more : List Entry) → map call_of more ≡ reads_of a name xs
    → TakesOnlyFor n more
reads_only n a name xs [] e = tt
reads_only n a name [] (x ∷ more) e = absurd cc
reads_only n a name (o ∷ xs) (x ∷ more) e =
    let first = read_first a name o xs x more e in
    (subst (λ (q : Request). IsTakeOnlyFor n q) (sym first.0) tt, reads_only n a name xs more first.1)

grows_reads : (n a : ℕ) (opened : Option ℕ) (xs : List ℕ) (old new : Option (List Entry))
    → LogsReadsIn old new a opened xs → GrowsFor n old new
grows_reads n a None xs old new t = subst (λ (l : Option (List Entry)). GrowsFor n old l) (sym t.0) (grows_none n old)
grows_reads n a (Some name) xs None new t = t
grows_reads n a (Some name) xs (Some h) new t =
    record { more = t.more; log_is = t.log_is; only = reads_only n a name xs t.more t.reads }

-- A log after the reads of a frame and the dispose takes for no watcher.
pub grows_finish : (n : ℕ) (old mid new : Option (List Entry)) (asked asked' : List ℕ) (caller later name : ℕ)
    (opened : Option ℕ) (r : Reply) → AskedAndLogged asked asked' old mid caller opened
    → Logs mid new later (request.Dispose name) r → GrowsFor n old new
grows_finish n old mid new asked asked' caller later name opened r a logs =
    grows_on n old mid new (grows_reads n caller opened a.more old mid a.tells)
    (grows_call n later (request.Dispose name) tt mid new r logs)
