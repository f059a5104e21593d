-- Searches over the numbers below a bound: the lines of a file, the parts, the resources.
-- Assumes nothing.
use Rattle.std.specs.Prelude.{Bool, true, false, cond, ◌&&◌, ◌||◌, List, [], ◌∷◌, ◌++◌, ℕ, zero, suc, ◌≡◌, ◌<◌, max, get_or, eqb}

-- the first number below n at which f holds, or n
unfoldable pub first_below : (ℕ → Bool) → ℕ → ℕ
first_below f zero = zero
first_below f (suc n) = cond (eqb (first_below f n) n) (cond (f n) n (suc n)) (first_below f n)

-- whether f holds at some number below n
unfoldable pub any_below : (ℕ → Bool) → ℕ → Bool
any_below f zero = false
any_below f (suc n) = f n || any_below f n

-- whether f holds at each number below n
unfoldable pub all_below : (ℕ → Bool) → ℕ → Bool
all_below f zero = true
all_below f (suc n) = f n && all_below f n

-- at how many numbers below n f holds
unfoldable pub count_below : (ℕ → Bool) → ℕ → ℕ
count_below f zero = zero
count_below f (suc n) = cond (f n) (suc (count_below f n)) (count_below f n)

-- the greatest of f's values below n, or 0
unfoldable pub greatest_below : (ℕ → ℕ) → ℕ → ℕ
greatest_below f zero = zero
greatest_below f (suc n) = max (f n) (greatest_below f n)

-- the number at place n is k: line n is one of resource k, or of point k
unfoldable pub is_of : List ℕ → ℕ → ℕ → Bool
is_of numbers k n = eqb (get_or numbers n 0) k

-- f's values below n, in order
unfoldable pub tabulate : ℕ → (ℕ → ℕ) → List ℕ
tabulate zero f = []
tabulate (suc n) f = tabulate n f ++ (f n ∷ [])

-- whether a test passes at every element of a list
unfoldable pub every : {A : Type 0} → (A → Bool) → List A → Bool
every test [] = true
every test (x ∷ rest) = test x && every test rest

-- a test that answers each number below n as f does
abbrev pub Answers : (ℕ → Bool → Type 0) → (ℕ → Bool) → ℕ → Type 0
Answers answer f n = (i : ℕ) (holds : Bool) → i < n → answer i holds → holds ≡ f i
