-- Joining while calls are listed gives the joined calls.
use Rattle.std.proofs.Common.{◌≡◌, ℕ, ◌+◌, ◌≤◌, length, drop, arith, List, [], ◌∷◌, ◌++◌, Option, Some, None, refl, ap, sym, ◌∙◌, append_assoc}
use Rattle.std.specs.Prelude.{Result, Ok, Err, OnOk, slice_get}
use Rattle.std.proofs.lemmas.List.{length-append, append-nil}
use Rattle.node_tree.specs.declared.ops.Op.{Op}
use Rattle.node_tree.specs.Placing.{joined_call, joined_or, joined_from, joined_calls}
use Rattle.node_tree.specs.declared.siblings.Sibling.{Sibling}
use Rattle.node_tree.specs.FlatNodes.{FlatNode}
use Rattle.node_tree.specs.SiblingLists.{joined_push, index_in, distance_of, counts_after, arrangement, arrange_at}

-- A list that has a first item.
pub record HasFirst (calls : List Op) : Type 0 where
  pub first : Op
  pub rest : List Op
  pub is : calls ≡ first ∷ rest

has_first : (calls : List Op) (call : Op) → HasFirst (joined_from calls call)
has_first [] call = record { first = call; rest = []; is = refl }
has_first (next ∷ calls) call = by (joined_call call next) (λ c. has_first calls c)
  where
    by : (o : Option Op) → ((c : Op) → HasFirst (joined_from calls c))
        → HasFirst (joined_or call next (joined_from calls) o)
    by None go = record { first = call; rest = joined_from calls next; is = refl }
    by (Some both) go = go both

push_after : (call last : Op) (calls : List Op) → HasFirst calls
    → joined_push (call ∷ calls) last ≡ call ∷ joined_push calls last
push_after call last calls h = ap (λ l. joined_push (call ∷ l) last) h.is
    ∙ sym (ap (λ l. call ∷ joined_push l last) h.is)

from_push : (calls : List Op) (call last : Op) → joined_from (calls ++ last ∷ []) call
    ≡ joined_push (joined_from calls call) last
from_push [] call last = refl
from_push (next ∷ calls) call last = by (joined_call call next) (λ c. from_push calls c last)
  where
    by : (o : Option Op)
        → ((c : Op) → joined_from (calls ++ last ∷ []) c ≡ joined_push (joined_from calls c) last)
        → joined_or call next (joined_from (calls ++ last ∷ [])) o
        ≡ joined_push (joined_or call next (joined_from calls) o) last
    by None go = ap (λ l. call ∷ l) (go next) ∙ sym (push_after call last (joined_from calls next) (has_first calls next))
    by (Some both) go = go both

pub calls_push : (calls : List Op) (last : Op) → joined_calls (calls ++ last ∷ []) ≡ joined_push (joined_calls calls) last
calls_push [] last = refl
calls_push (call ∷ calls) last = from_push calls call last

-- A list that has a last item.
pub record HasLast (calls : List Op) : Type 0 where
  pub before : List Op
  pub last : Op
  pub is : calls ≡ before ++ last ∷ []

last_of : (call : Op) (calls : List Op) → HasLast (call ∷ calls)
last_of call [] = record { before = []; last = call; is = refl }
last_of call (next ∷ calls) =
    let l = last_of next calls in
    record { before = call ∷ l.before; last = l.last; is = ap (λ (xs : List Op). call ∷ xs) l.is }

push_at_end : (before : List Op) (last call : Op)
    → joined_push (before ++ last ∷ []) call ≡ before ++ joined_or last call (λ both. both ∷ []) (joined_call last call)
push_at_end [] last call = refl
push_at_end (first ∷ []) last call = refl
push_at_end (first ∷ (next ∷ before)) last call = ap (λ l. first ∷ l) (push_at_end (next ∷ before) last call)

-- What the joined calls are after one more, by the last of those before.
abbrev pub Pushes : List Op → List Op → List Op → Op → Type 0
Pushes before done now call =
    ((done ≡ []) → now ≡ before ++ call ∷ [])
    × ((xs : List Op) (last : Op) → done ≡ xs ++ last ∷ []
    → now ≡ (before ++ xs) ++ joined_or last call (λ both. both ∷ []) (joined_call last call))

pub pushes : (before now : List Op) (calls : List Op) (call : Op) → Pushes before (joined_calls calls) now call
    → now ≡ before ++ joined_calls (calls ++ call ∷ [])
pushes before now calls call p = by (joined_calls calls) refl p
  where
    by : (done : List Op) → joined_calls calls ≡ done → Pushes before done now call
        → now ≡ before ++ joined_calls (calls ++ call ∷ [])
    by [] is p = p.0 refl
        ∙ ap (λ (l : List Op). before ++ joined_push l call) (sym is)
        ∙ ap (λ (l : List Op). before ++ l) (sym (calls_push calls call))
    by (first ∷ rest) is p =
        let l = last_of first rest in
        p.1 l.before l.last l.is
        ∙ append_assoc before l.before _
        ∙ ap (λ (k : List Op). before ++ k) (sym (push_at_end l.before l.last call))
        ∙ ap (λ (k : List Op). before ++ joined_push k call) (sym (is ∙ l.is))
        ∙ ap (λ (k : List Op). before ++ k) (sym (calls_push calls call))

pub on_ok : {T E : Type 0} (r : Result T E) (A B : Type 0) → (A → B) → OnOk r A → OnOk r B
on_ok (Ok x) A B f a = f a
on_ok (Err e) A B f a = tt

-- What `joined_last` answers.
pub record Answers (self : List Op) (start : ℕ) (call : Op) (o : Option Op) : Type 0 where
  pub none : (b : List Op) → self ≡ b → length b ≡ start → o ≡ None
  pub some : (xs : List Op) (last : Op) → self ≡ xs ++ last ∷ [] → start ≤ length xs → o ≡ joined_call last call

at_end : (before xs done self : List Op) (last : Op) → self ≡ before ++ done → done ≡ xs ++ last ∷ []
    → self ≡ (before ++ xs) ++ last ∷ []
at_end before xs done self last e f =
    e ∙ ap (λ (l : List Op). before ++ l) f ∙ sym (append_assoc before xs (last ∷ []))

pub pushed_some : (before calls self popped pushed : List Op) (call both : Op) (o : Option Op) (start : ℕ)
    → self ≡ before ++ joined_calls calls → length before ≡ start → Answers self start call o → o ≡ Some both
    → ((xs : List Op) (x : Op) → self ≡ xs ++ x ∷ [] → popped ≡ xs) → pushed ≡ popped ++ both ∷ []
    → pushed ≡ before ++ joined_calls (calls ++ call ∷ [])
pushed_some before calls self popped pushed call both o start e f answers is pops pushes_both =
    pushes before pushed calls call (
      (λ none. absurd (none_some both (sym (answers.none before
          (e ∙ ap (λ (l : List Op). before ++ l) none ∙ append-nil before) f) ∙ is))),
      (λ xs last done.
          let at = at_end before xs (joined_calls calls) self last e done in
          pushes_both ∙ ap (λ (l : List Op). l ++ both ∷ []) (pops (before ++ xs) last at)
          ∙ ap (λ (j : Option Op). (before ++ xs) ++ joined_or last call (λ b. b ∷ []) j)
          (sym is ∙ answers.some (before ++ xs) last at (omega (arith, length-append before xs, f)))),
    )
  where
    none_some : (b : Op) → None ≡ Some b → ⊥
    none_some b n = absurd cc

pub pushed_none : (before calls self pushed : List Op) (call : Op) (o : Option Op) (start : ℕ)
    → self ≡ before ++ joined_calls calls → length before ≡ start → Answers self start call o → o ≡ None
    → pushed ≡ self ++ call ∷ [] → pushed ≡ before ++ joined_calls (calls ++ call ∷ [])
pushed_none before calls self pushed call o start e f answers is pushes_call =
    pushes before pushed calls call (
      (λ none. pushes_call ∙ ap (λ (l : List Op). l ++ call ∷ [])
          (e ∙ ap (λ (l : List Op). before ++ l) none ∙ append-nil before)),
      (λ xs last done.
          let at = at_end before xs (joined_calls calls) self last e done in
          pushes_call ∙ ap (λ (l : List Op). l ++ call ∷ []) at
          ∙ append_assoc (before ++ xs) (last ∷ []) (call ∷ [])
          ∙ ap (λ (j : Option Op). (before ++ xs) ++ joined_or last call (λ b. b ∷ []) j)
          (sym is ∙ answers.some (before ++ xs) last at (omega (arith, length-append before xs, f)))),
    )

-- The calls so far are joined calls, and with those of the siblings from an index on they are all calls.
pub record Arranges (before all now rest : List Op) : Type 0 where
  pub calls : List Op
  pub joined : now ≡ before ++ joined_calls calls
  pub whole : calls ++ rest ≡ all

-- What holds after some siblings are arranged. Tactics do not rewrite under the function that `arrange_at` takes, so
-- there is a variable for it.
abbrev pub ArrangesAll : ℕ → List Sibling → List FlatNode → List ℕ → List Sibling → List Op → ℕ → List ℕ → List Op → Type 0
ArrangesAll start old new counts siblings was index left now =
    (find : ℕ → Option ℕ) → ((number : ℕ) → index_in number old ≡ find number)
    → (before calls : List Op) → was ≡ before ++ joined_calls calls → length before ≡ start
    → Arranges before (calls ++ arrange_at 0 find counts new siblings) now
    (arrange_at index find left new (drop index siblings))

pub arranges_first : (before calls was rest : List Op) → was ≡ before ++ joined_calls calls
    → Arranges before (calls ++ rest) was rest
arranges_first before calls was rest e = record { calls = calls; joined = e; whole = refl }

pub arranges_more : (before all was now one rest rest' : List Op) (start : ℕ) → Arranges before all was rest
    → rest ≡ one ++ rest'
    → ((b c : List Op) → was ≡ b ++ joined_calls c → length b ≡ start → now ≡ b ++ joined_calls (c ++ one))
    → length before ≡ start → Arranges before all now rest'
arranges_more before all was now one rest rest' start a e pushed f = record {
  calls = a.calls ++ one;
  joined = pushed before a.calls a.joined f;
  whole = append_assoc a.calls one rest' ∙ ap (λ (l : List Op). a.calls ++ l) (sym e) ∙ a.whole;
}

pub arranges_all : (before all now rest : List Op) → Arranges before all now rest → rest ≡ []
    → now ≡ before ++ joined_calls all
arranges_all before all now rest a e =
    a.joined ∙ ap (λ (l : List Op). before ++ joined_calls l)
    (sym (append-nil a.calls) ∙ ap (λ (l : List Op). a.calls ++ l) (sym e) ∙ a.whole)

pub arranged_more : (find : ℕ → Option ℕ) (old siblings : List Sibling) (index start : ℕ) (counts left : List ℕ)
    (new : List FlatNode) (s : Sibling) (distance : Option ℕ) (before all was now : List Op)
    → ((number : ℕ) → index_in number old ≡ find number)
    → Arranges before all was (arrange_at index find counts new (drop index siblings))
    → drop index siblings ≡ s ∷ drop (index + 1) siblings
    → distance ≡ distance_of (index_in s.number old) counts → left ≡ counts_after (index_in s.number old) counts
    → ((b c : List Op) → was ≡ b ++ joined_calls c → length b ≡ start
    → now ≡ b ++ joined_calls (c ++ arrangement index distance (slice_get new s.start)))
    → length before ≡ start
    → Arranges before all now (arrange_at (index + 1) find left new (drop (index + 1) siblings))
arranged_more find old siblings index start counts left new s distance before all was now same a here is_distance is_left pushed f =
    arranges_more before all was now (arrangement index distance (slice_get new s.start))
    (arrange_at index find counts new (drop index siblings))
    (arrange_at (index + 1) find left new (drop (index + 1) siblings)) start a
    (ap (λ (l : List Sibling). arrange_at index find counts new l) here
    ∙ ap (λ (k : Option ℕ). arrangement index (distance_of k counts) (slice_get new s.start)
    ++ arrange_at (index + 1) find (counts_after k counts) new (drop (index + 1) siblings)) (sym (same s.number))
    ∙ ap (λ (d : Option ℕ). arrangement index d (slice_get new s.start)
    ++ arrange_at (index + 1) find (counts_after (index_in s.number old) counts) new (drop (index + 1) siblings))
    (sym is_distance)
    ∙ ap (λ (l : List ℕ). arrangement index distance (slice_get new s.start)
    ++ arrange_at (index + 1) find l new (drop (index + 1) siblings)) (sym is_left))
    pushed f
