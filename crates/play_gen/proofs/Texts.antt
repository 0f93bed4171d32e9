-- Texts that grow piece by piece.
use Rattle.std.proofs.Common.{◌≡◌, ℕ, List, ◌++◌, ap, ◌∙◌, append_assoc}

pub two_pieces : (t first second a b : List ℕ) → first ≡ t ++ a → second ≡ first ++ b → second ≡ t ++ (a ++ b)
two_pieces t first second a b one two = two ∙ ap (λ l. l ++ b) one ∙ append_assoc t a b

pub three_pieces : (t first second third a b c : List ℕ) → first ≡ t ++ a → second ≡ first ++ b → third ≡ second ++ c
    → third ≡ t ++ (a ++ (b ++ c))
three_pieces t first second third a b c one two three =
    two_pieces t second third (a ++ b) c (two_pieces t first second a b one two) three
    ∙ ap (λ l. t ++ l) (append_assoc a b c)

pub four_pieces : (t first second third fourth a b c d : List ℕ) → first ≡ t ++ a → second ≡ first ++ b
    → third ≡ second ++ c → fourth ≡ third ++ d → fourth ≡ t ++ (a ++ (b ++ (c ++ d)))
four_pieces t first second third fourth a b c d one two three four =
    two_pieces t third fourth (a ++ (b ++ c)) d (three_pieces t first second third a b c one two three) four
    ∙ ap (λ l. t ++ l) (append_assoc a (b ++ c) d ∙ ap (λ l. a ++ l) (append_assoc b c d))
