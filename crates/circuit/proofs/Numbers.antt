-- Numbers in files: what is written is read again, and what is read was written.
use Rattle.std.proofs.Common.{◌≡◌, ℕ, zero, suc, ◌+◌, ◌*◌, ◌/◌, ◌%◌, ◌<◌, List, [], ◌∷◌, length, get_or, refl, ap₂, ◌∙◌, arith}
use Rattle.circuit.specs.Files.{number_at, bytes_of}

abbrev pub IsBytes : List ℕ → Type 0
IsBytes bs = (i : ℕ) → get_or bs i 0 < 256

-- a number after the first is the one before it in what is left
number_later : (a b : ℕ) (rest : List ℕ) (i : ℕ) → number_at (a ∷ b ∷ rest) (suc i) ≡ number_at rest i
number_later a b rest i =
    let e : 2 * suc i ≡ suc (suc (2 * i)) = omega arith in
    let f : 2 * suc i + 1 ≡ suc (suc (2 * i + 1)) = omega arith in
    ap₂ (λ x y. get_or (a ∷ b ∷ rest) x 0 + 256 * get_or (a ∷ b ∷ rest) y 0) e f

pub length-bytes_of : (xs : List ℕ) → length (bytes_of xs) ≡ 2 * length xs
length-bytes_of [] = refl
length-bytes_of (x ∷ xs) = let e = length-bytes_of xs in omega arith

pub number_written : (xs : List ℕ) (i : ℕ) → i < length xs → number_at (bytes_of xs) i ≡ get_or xs i 0
number_written [] i h = absurd (omega arith)
number_written (x ∷ xs) zero h = omega arith
number_written (x ∷ xs) (suc i) h = number_later (x % 256) (x / 256) (bytes_of xs) i ∙ number_written xs i (omega arith)

-- bytes that are read as these numbers are what is written of them
pub written : (bs xs : List ℕ) → IsBytes bs → length bs ≡ 2 * length xs → ((i : ℕ) → i < length xs → get_or xs i 0 ≡ number_at bs i) → bytes_of xs ≡ bs
written [] [] b l r = refl
written (a ∷ bs) [] b l r = absurd (omega arith)
written [] (x ∷ xs) b l r = absurd (omega arith)
written (a ∷ []) (x ∷ xs) b l r = absurd (omega arith)
written (a ∷ b ∷ bs) (x ∷ xs) small l r =
    let first : x ≡ a + 256 * b = r 0 (omega arith) in
    let low : a < 256 = small 0 in
    let lower : x % 256 ≡ a = omega arith in
    let upper : x / 256 ≡ b = omega arith in
    let rest = written bs xs (λ i. small (suc (suc i))) (omega arith) (λ i h. r (suc i) (omega arith) ∙ number_later a b bs i) in
    λ i. lower i ∷ upper i ∷ rest i
