-- a list of fields that grows at its front
use Rattle.std.proofs.Common.{◌≡◌, ℕ, zero, suc, ◌+◌, ◌-◌, ◌<◌, ◌≤◌, List, [], ◌∷◌, length, get_or, set, drop, refl, sym, ap, ◌∙◌, arith}
use Rattle.std.proofs.lemmas.List.{drop-set, get_or-drop, length-drop}
use Rattle.trace_text.specs.declared.words.Field.{Field}
use Rattle.trace_text.specs.declared.words.Field.TheVariants as fields
use Rattle.trace_text.specs.declared.fields.TheConstants.{MOST_FIELDS}
use Rattle.trace_text.specs.Reading.{field_of}
use Rattle.trace_text.specs.Steps.{IsFieldList}

abbrev any : Field
any = fields.Cpu (record { 0 = 0 })

pub some_room : (fs : List Field) (first : ℕ) (v : List Field) → IsFieldList fs first
    → drop first fs ≡ v → length v < MOST_FIELDS → 1 ≤ first
some_room fs first v is e few =
    let n = length-drop first fs in
    let m : length (drop first fs) ≡ length v = ap length e in
    omega (arith, n, m, few, is.whole, is.within)

pub grown : (fs : List Field) (first : ℕ) (f : Field) (v : List Field) → IsFieldList fs first
    → drop first fs ≡ v → length v < MOST_FIELDS → drop (first - 1) (set fs (first - 1) f) ≡ f ∷ v
grown fs first f v is e few =
    let some = some_room fs first v is e few in
    let back : first - 1 + 1 ≡ first = omega (arith, some) in
    drop-set fs (first - 1) f (omega (arith, some, is.whole, is.within))
    ∙ ap (λ n. f ∷ drop n fs) back ∙ ap (λ (r : List Field). f ∷ r) e

none_at : (i : ℕ) → get_or [] i any ≡ any
none_at zero = refl
none_at (suc i) = refl

none_of : (i : ℕ) → field_of [] i ≡ any
none_of zero = refl
none_of (suc i) = none_of i

field_get : (fs : List Field) (i : ℕ) → field_of fs i ≡ get_or fs i any
field_get [] i = none_of i ∙ sym (none_at i)
field_get (f ∷ fs) zero = refl
field_get (f ∷ fs) (suc i) = field_get fs i

past : (fs : List Field) (i : ℕ) → length fs ≤ i → get_or fs i any ≡ any
past [] i h = none_at i
past (f ∷ fs) zero h = absurd (omega (arith, h))
past (f ∷ fs) (suc i) h = past fs i (omega (arith, h))

pub got : (fs : List Field) (first i : ℕ) (v : List Field) → drop first fs ≡ v
    → get_or fs (first + i) any ≡ field_of v i
got fs first i v e =
    sym (get_or-drop first fs i any) ∙ sym (field_get (drop first fs) i) ∙ ap (λ (x : List Field). field_of x i) e

pub not_got : (fs : List Field) (first i : ℕ) (v : List Field) → IsFieldList fs first
    → drop first fs ≡ v → MOST_FIELDS ≤ first + i → any ≡ field_of v i
not_got fs first i v is e far = sym (past fs (first + i) (omega (arith, far, is.whole))) ∙ got fs first i v e
