-- The verdicts of rules, tried one after another. Assumes nothing.
use Rattle.std.specs.Prelude.{Bool, Result, Ok, Err, cond, ◌||◌, List, [], ◌∷◌, ℕ, ◌+◌, eqb, ltb}
use Rattle.refusals.specs.declared.Refusal.{Refusal}
use Rattle.refusals.specs.declared.Refusal.TheVariants.{LineCount}
use Rattle.refusals.specs.declared.Broken.{Broken}
use Rattle.refusals.specs.Refusal.{number_of}
use Rattle.refusals.specs.Search.{first_below}

-- what a rule says: nothing against it, or that it is broken, with the line that it names
abbrev pub Verdict : Type 0
Verdict = Result Unit Broken

pattern abbrev pub Accepted : Verdict
Accepted = Ok tt

abbrev pub Refused : Refusal → ℕ → Verdict
Refused refusal line = Err (record { rule = refusal; line = line })

-- "Each of the two readers tries a rule over the whole file before the next rule.": the first verdict of the list that refuses
unfoldable pub first_refusal : List Verdict → Verdict
first_refusal [] = Accepted
first_refusal (Accepted ∷ rest) = first_refusal rest
first_refusal (Err broken ∷ rest) = Err broken

-- "A file refusal carries the first breaking line (names line 1, so value line n is n+2)":
-- the verdict of a rule whose first breaking line is `first`, of `count` lines
unfoldable pub line_verdict : Refusal → ℕ → ℕ → Verdict
line_verdict refusal first count = cond (ltb first count) (Refused refusal (first + 2)) Accepted

-- the verdict of a rule that the lines at which `breaks` holds break
unfoldable pub first_line : Refusal → (ℕ → Bool) → ℕ → Verdict
first_line refusal breaks count = line_verdict refusal (first_below breaks count) count

-- "or 0 in rules 3 and 5": the verdict of a rule that names no line
unfoldable pub no_line : Refusal → Bool → Verdict
no_line refusal breaks = cond breaks (Refused refusal 0) Accepted

-- what a call gives beside its verdict: what it found if that accepts; "With it the reader returns a record of no lines; a
-- refused next-move returns entry 0, a refused place call 255, a refused report its own run."
unfoldable pub if_accepted : {A : Type 0} → Verdict → A → A → A
if_accepted Accepted found none = found
if_accepted (Err broken) found none = none

-- what a call that finds something answers: that, if the verdict accepts, and else the refusal
unfoldable pub found_if : {A : Type 0} → Verdict → A → Result A Broken
found_if Accepted found = Ok found
found_if (Err broken) found = Err broken

-- "3. There are no value lines, or over 64."
unfoldable pub rule3 : ℕ → Verdict
rule3 count = no_line LineCount (eqb count 0 || ltb 64 count)

-- "a definition provides this paper's number .. for each case": the refusal of a verdict, 0 if it accepts
unfoldable pub refusal_in : Verdict → ℕ
refusal_in Accepted = 0
refusal_in (Err broken) = number_of broken.rule
