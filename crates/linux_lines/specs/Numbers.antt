-- the numbers of a trace
use Rattle.std.specs.Prelude.{ℕ, ◌+◌, ◌-◌, ◌*◌, List, [], ◌∷◌, ◌&&◌, nat_lt, nat_le, codes}
use Rattle.std.specs.Prelude.{Option, Some, None, option_and_then, Result, Ok, Err, bytes_eq}
use Rattle.std.specs.Prelude.{if◌then◌else◌, ok_or}
use Rattle.linux_lines.specs.declared.faults.LineFault.{LineFault}
use Rattle.linux_lines.specs.declared.faults.LineFault.TheVariants.{BadNumber, OutOfRange}
use Rattle.linux_lines.specs.declared.faults.LineFault.TheVariants.{HiddenPointer}
use Rattle.linux_lines.specs.declared.numbers.Base.{Base}
use Rattle.linux_lines.specs.declared.numbers.Base.TheVariants.{Ten, Sixteen}
use Rattle.linux_lines.specs.Parts.{without}

-- the value of a digit, or 16 where the byte is none
abbrev pub digit_of : ℕ → ℕ
digit_of c =
    if nat_le 48 c && nat_le c 57 then c - 48
    else if nat_le 97 c && nat_le c 102 then c - 97 + 10
    else if nat_le 65 c && nat_le c 70 then c - 65 + 10
    else 16

-- a number with one digit more, within 64 bits
abbrev pub with_digit : Base → ℕ → ℕ → Option ℕ
with_digit Ten n c =
    if nat_lt (digit_of c) 10 && nat_le n 1844674407370955160 then Some (n * 10 + digit_of c)
    else None
with_digit Sixteen n c =
    if nat_lt (digit_of c) 16 && nat_le n 1152921504606846975 then Some (n * 16 + digit_of c)
    else None

-- the number of the digits of n and of further ones
abbrev pub number_from : Base → ℕ → List ℕ → Option ℕ
number_from base n [] = Some n
number_from base n (c ∷ cs) = option_and_then (λ m. number_from base m cs) (with_digit base n c)

-- the number that digits spell
unfoldable pub number_of : Base → List ℕ → Option ℕ
number_of base [] = None
number_of base (c ∷ cs) = number_from base 0 (c ∷ cs)

-- the number that a word spells, to this base
unfoldable pub number_in : Base → List ℕ → Result ℕ LineFault
number_in base word = ok_or (number_of base word) BadNumber

-- in base sixteen, with 0x in front or without
unfoldable pub mask_in : List ℕ → Result ℕ LineFault
mask_in word = number_in Sixteen (without (codes "0x") word)

-- the address that a word spells; the kernel may hide it
unfoldable pub pointer_in : List ℕ → Result ℕ LineFault
pointer_in word =
    if bytes_eq word (codes "(____ptrval____)") then Err HiddenPointer
    else if bytes_eq word (codes "(nil)") then Ok 0
    else mask_in word

-- a number that is at most this one
unfoldable pub within : ℕ → ℕ → Result ℕ LineFault
within most n = if nat_le n most then Ok n else Err OutOfRange
