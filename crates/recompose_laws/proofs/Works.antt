-- Laws of sums of work.
use Rattle.std.proofs.Common.{ℕ, suc, ◌+◌, List, ◌≡◌, refl, ap, ◌∙◌, append_assoc, Bool, true, false, arith}
use Rattle.recompose_laws.specs.Work.{Work, no_work, work_sum, with_call, with_cell, with_read}

-- Works are equal if their parts are.
abbrev pub parts : ℕ → ℕ → List ℕ → Work
parts ran calculated reads = record { ran = ran; calculated = calculated; reads = reads }

pub same_parts : (a b c d : ℕ) (l k : List ℕ) → a ≡ b → c ≡ d → l ≡ k → parts a c l ≡ parts b d k
same_parts a b c d l k e f g = ap (λ x. parts x c l) e ∙ ap (λ x. parts b x l) f ∙ ap (λ x. parts b d x) g

pub no_work-work_sum : (w : Work) → w ≡ work_sum no_work w
no_work-work_sum w =
    same_parts w.ran (0 + w.ran) w.calculated (0 + w.calculated) w.reads w.reads (omega arith) (omega arith) refl

pub work_sum-work_sum : (u v w : Work) → work_sum u (work_sum v w) ≡ work_sum (work_sum u v) w
work_sum-work_sum u v w = same_parts _ _ _ _ _ _ (omega arith) (omega arith) (simp append_assoc)

pub with_read-work_sum : (b : Bool) (x : ℕ) (v w : Work) → with_read b x (work_sum v w) ≡ work_sum (with_read b x v) w
with_read-work_sum true x v w = refl
with_read-work_sum false x v w = refl

pub with_call-work_sum : (b : Bool) (v w : Work) → with_call b (work_sum v w) ≡ work_sum (with_call b v) w
with_call-work_sum true v w = same_parts (suc (v.ran + w.ran)) (suc v.ran + w.ran) _ _ _ _ (omega arith) refl refl
with_call-work_sum false v w = refl

pub with_cell-work_sum : (b : Bool) (v w : Work) → with_cell b (work_sum v w) ≡ work_sum (with_cell b v) w
with_cell-work_sum true v w =
    same_parts _ _ (suc (v.calculated + w.calculated)) (suc v.calculated + w.calculated) _ _ refl (omega arith) refl
with_cell-work_sum false v w = refl
