-- The own calls of a caller, and the objects that they read.
use Rattle.std.proofs.Common.{ℕ, List, ◌≡◌, ◌++◌, ◌∷◌, [], refl, sym, ap, ◌∙◌, Some, false, true, Bool, not, ◌==◌, cond, ◌||◌, append_assoc, append-nil}
use Rattle.std.proofs.lemmas.Bool.Decides.{Decides-eqb}
use Rattle.snap_api.specs.Calls.{Logs, is_no_memory}
use Rattle.snap_api.specs.declared.data.Entry.{Entry}
use Rattle.snap_api.specs.declared.data.Refusal.TheVariants as refusal
use Rattle.snap_api.specs.declared.data.Reply.{Reply}
use Rattle.snap_api.specs.declared.data.Reply.TheVariants as reply
use Rattle.snap_api.specs.declared.data.Request.{Request}
use Rattle.snap_shared.specs.Histories.{caller_of}
use Rattle.snap_shared.specs.SharedCalls.{own_calls, entries_added, ContinuesWith}
use Rattle.snap_shared.specs.SeatDesk.{is_read, AreOthersOrReads, objects_of_read, objects_read}
use Rattle.snap_shared.proofs.Prefixes.{calls_by-append}

-- A list without calls of the caller has only other callers' calls.
pub others_only : (number : ℕ) (es : List Entry) → own_calls number es ≡ [] → AreOthersOrReads number es
others_only number [] h = tt
others_only number (e ∷ es) h = go (others_only number es) (e.caller == number) refl h where
  go : (own_calls number es ≡ [] → AreOthersOrReads number es) → (b : Bool) → (e.caller == number) ≡ b
      → cond b (e ∷ own_calls number es) (own_calls number es) ≡ [] → AreOthersOrReads number (e ∷ es)
  go more true f k = absurd cc
  go more false f k = (ap (λ (b : Bool). not b || is_read e.request) f, more k)

-- A number equals itself.
pub itself : (n : ℕ) → (n == n) ≡ true
itself n = (Decides-eqb n n).1 refl

pub objects_read-append : (xs ys : List Entry) → objects_read (xs ++ ys) ≡ objects_read xs ++ objects_read ys
objects_read-append [] ys = refl
objects_read-append (x ∷ xs) ys = ap (λ (l : List ℕ). objects_of_read x.request ++ l) (objects_read-append xs ys)
    ∙ sym (append_assoc (objects_of_read x.request) (objects_read xs) (objects_read ys))

module _ (number : ℕ) (q : Request) (r : Reply) where
  -- The entry of a call with its reply.
  abbrev pub entry : Entry
  entry = record { caller = number; request = q; reply = r }

  own_added : own_calls number (entries_added number q r) ≡ entries_added number q r
  own_added = by (is_no_memory r) where
    by : (b : Bool) → own_calls number (cond b [] (entry ∷ [])) ≡ cond b [] (entry ∷ [])
    by true = refl
    by false = ap (λ b. cond b (entry ∷ []) []) (itself number)

  -- The own calls grow by the entry that a call adds.
  pub own_new : (old new : List Entry) → ContinuesWith number old new (entries_added number q r)
      → own_calls number new ≡ own_calls number old ++ entries_added number q r
  own_new old new g =
      ap (own_calls number) g.is ∙ calls_by-append caller_of number (old ++ g.between) (entries_added number q r)
      ∙ ap (λ l. l ++ own_calls number (entries_added number q r))
      (calls_by-append caller_of number old g.between ∙ ap (λ l. own_calls number old ++ l) g.others
      ∙ append-nil (own_calls number old))
      ∙ ap (λ l. own_calls number old ++ l) own_added

-- A call that ran out of memory is not among the caller's own calls. Any other call is the last of them.
pub logs_own : (number : ℕ) (q : Request) (r : Reply) (old new : List Entry)
    → ContinuesWith number old new (entries_added number q r)
    → Logs (Some (own_calls number old)) (Some (own_calls number new)) number q r
logs_own number q (reply.Refused refusal.NoMemory) old new g = ap (λ (l : List Entry). Some l)
    (own_new number q (reply.Refused refusal.NoMemory) old new g ∙ append-nil (own_calls number old))
logs_own number q (reply.Refused r) old new g =
    ap (λ (l : List Entry). Some l) (own_new number q (reply.Refused r) old new g)
logs_own number q r old new g = ap (λ (l : List Entry). Some l) (own_new number q r old new g)
