-- for crates above: words say fields, and fields are spelled as words
use Rattle.std.proofs.Common.{◌≡◌, ℕ, ◌^◌, ◌<◌, ◌≤◌, true, ltb, List, [], ◌∷◌, map, Result, Ok, Err, refl, sym, ap, subst, ◌∙◌, arith, inl, inr}
use Rattle.std.specs.Prelude.{codes}
use Rattle.std.specs.Fmt.{decimal}
use Rattle.std.specs.Str.{bytes_eq}
use Rattle.std.proofs.lemmas.Bool.{cases_Bool, cond-true, cond-false, ltb-true, lt-ltb}
use Rattle.std.proofs.lemmas.Slice.Eq.{bytes_eq-Decides}
use Rattle.text_words.specs.Numbers.{is_number, value_of}
use Rattle.text_words.proofs.Digits.{word_found, word_again, clear_decimal}
use Rattle.text_words.proofs.Cuts.{is_clear, AreClear}
use Rattle.tm_base.specs.Classes.{class_text}
use Rattle.tm_base.specs.declared.names.Class.{Class}
use Rattle.tm_base.specs.declared.names.Class.TheVariants.{Pinned, Global, Deferrable}
use Rattle.tm_script.specs.declared.faults.Kind.{Kind}
use Rattle.trace_text.specs.declared.words.Limits.{Limits}
use Rattle.trace_text.specs.declared.words.Slot.{Slot}
use Rattle.trace_text.specs.declared.words.Slot.TheVariants as slots
use Rattle.trace_text.specs.declared.words.Field.{Field}
use Rattle.trace_text.specs.declared.words.Field.TheVariants as fields
use Rattle.trace_text.specs.Lines.{AreFieldsWithin, IsWithin, bound_of, field_word}
use Rattle.trace_text.specs.Reading.{◌>>=◌, class_by, field_at, fields_of, head_field, joined_fields, number_below, rest_fields}
use Rattle.trace_text.specs.Reading.{arg_by, class_in_field, cpu_by, job_by, line_in_field, time_by, timer_by}

-- the place of a field
abbrev pub slot_in : Field → Slot
slot_in (fields.Cpu x) = slots.Cpu
slot_in (fields.Timer x) = slots.Timer
slot_in (fields.Class x) = slots.Class
slot_in (fields.Time x) = slots.Time
slot_in (fields.Job x) = slots.Job
slot_in (fields.Arg x) = slots.Arg
slot_in (fields.Line x) = slots.Line

-- numbers of CPUs and timers are short enough to be read
pub record AreSmall (l : Limits) : Type 0 where
  pub cpus : l.cpus ≤ 10 ^ 13
  pub timers : l.timers ≤ 10 ^ 13

-- ---- one field

number_ok : (bound : ℕ) (w : List ℕ) (n : ℕ) → number_below bound w ≡ Ok n → (decimal n ≡ w) × (n < bound)
unfolding number_below
number_ok bound w n e = elim (cases_Bool (is_number w)) [
  | inr out ↦ absurd (let no = sym (cond-false (is_number w) _ _ out) ∙ e in cc)
  | inl is ↦ elim (cases_Bool (ltb (value_of w) bound)) [
    | inr far ↦ absurd (let no = sym (cond-true (is_number w) _ _ is ∙ cond-false (ltb (value_of w) bound) _ _ far) ∙ e in cc)
    | inl near ↦
        let both = sym (cond-true (is_number w) _ _ is ∙ cond-true (ltb (value_of w) bound) _ _ near) ∙ e in
        let same : value_of w ≡ n = cc in
        (ap decimal (sym same) ∙ (word_found w is).0, subst (λ m. m < bound) same (ltb-true (value_of w) bound near))
  ]
]

number_back : (bound n : ℕ) → bound ≤ 10 ^ 13 → n < bound → number_below bound (decimal n) ≡ Ok n
unfolding number_below
number_back bound n few low =
    let wide : n < 10 ^ 13 = omega (arith, few, low) in
    let again = word_again n wide in
    let A = Result ℕ Kind in
    cond-true (is_number (decimal n)) _ _ again.0
    ∙ cond-true (ltb (value_of (decimal n)) bound) _ _ (ap (λ v. ltb v bound) again.1 ∙ lt-ltb n bound low)
    ∙ ap (λ (v : ℕ). Ok v) again.1

class_ok : (w : List ℕ) (class : Class) → class_by w ≡ Ok class → class_text class ≡ w
unfolding class_by
class_ok w class e = elim (cases_Bool (bytes_eq w (codes "pinned"))) [
  | inl p ↦
      let both = sym (cond-true (bytes_eq w (codes "pinned")) _ _ p) ∙ e in
      let same : Pinned ≡ class = cc in
      ap class_text (sym same) ∙ sym ((bytes_eq-Decides w (codes "pinned")).0 p)
  | inr np ↦ elim (cases_Bool (bytes_eq w (codes "global"))) [
    | inl g ↦
        let both = sym (cond-false (bytes_eq w (codes "pinned")) _ _ np ∙ cond-true (bytes_eq w (codes "global")) _ _ g) ∙ e in
        let same : Global ≡ class = cc in
        ap class_text (sym same) ∙ sym ((bytes_eq-Decides w (codes "global")).0 g)
    | inr ng ↦ elim (cases_Bool (bytes_eq w (codes "deferrable"))) [
      | inl d ↦
          let both = sym (cond-false (bytes_eq w (codes "pinned")) _ _ np ∙ (cond-false (bytes_eq w (codes "global")) _ _ ng ∙ cond-true (bytes_eq w (codes "deferrable")) _ _ d)) ∙ e in
          let same : Deferrable ≡ class = cc in
          ap class_text (sym same) ∙ sym ((bytes_eq-Decides w (codes "deferrable")).0 d)
      | inr nd ↦ absurd (let no = sym (cond-false (bytes_eq w (codes "pinned")) _ _ np ∙ (cond-false (bytes_eq w (codes "global")) _ _ ng ∙ cond-false (bytes_eq w (codes "deferrable")) _ _ nd)) ∙ e in cc)
    ]
  ]
]

class_back : (class : Class) → class_by (class_text class) ≡ Ok class
unfolding class_by
class_back Pinned = refl
class_back Global = refl
class_back Deferrable = refl

pub bind_ok : {A B E : Type 0} (r : Result A E) (g : A → B) (f : B) → (r >>= λ a. Ok (g a)) ≡ Ok f → (a : A) × (r ≡ Ok a) × (g a ≡ f)
bind_ok (Ok a) g f e = (a, refl, let same : g a ≡ f = cc in same)
bind_ok (Err k) g f e = absurd cc

abbrev IsSpelled : Limits → Slot → List ℕ → Field → Type 0
IsSpelled l s w f = (field_word f ≡ w) × IsWithin l f × (slot_in f ≡ s)

field_found : (l : Limits) (s : Slot) (w : List ℕ) (f : Field) → field_at l s w ≡ Ok f → IsSpelled l s w f
field_found l slots.Cpu w f e =
    let b = bind_ok (number_below (bound_of l slots.Cpu) w) (λ n. fields.Cpu (record { 0 = n })) f e in
    let n = number_ok (bound_of l slots.Cpu) w b.0 b.1 in
    subst (IsSpelled l slots.Cpu w) b.2 (n.0, n.1, refl)
field_found l slots.Timer w f e =
    let b = bind_ok (number_below (bound_of l slots.Timer) w) (λ n. fields.Timer (record { 0 = n })) f e in
    let n = number_ok (bound_of l slots.Timer) w b.0 b.1 in
    subst (IsSpelled l slots.Timer w) b.2 (n.0, n.1, refl)
field_found l slots.Class w f e =
    let b = bind_ok (class_by w) (λ class. fields.Class class) f e in
    subst (IsSpelled l slots.Class w) b.2 (class_ok w b.0 b.1, tt, refl)
field_found l slots.Time w f e =
    let b = bind_ok (number_below (bound_of l slots.Time) w) (λ n. fields.Time n) f e in
    let n = number_ok (bound_of l slots.Time) w b.0 b.1 in
    subst (IsSpelled l slots.Time w) b.2 (n.0, n.1, refl)
field_found l slots.Job w f e =
    let b = bind_ok (number_below (bound_of l slots.Job) w) (λ n. fields.Job n) f e in
    let n = number_ok (bound_of l slots.Job) w b.0 b.1 in
    subst (IsSpelled l slots.Job w) b.2 (n.0, n.1, refl)
field_found l slots.Arg w f e =
    let b = bind_ok (number_below (bound_of l slots.Arg) w) (λ n. fields.Arg n) f e in
    let n = number_ok (bound_of l slots.Arg) w b.0 b.1 in
    subst (IsSpelled l slots.Arg w) b.2 (n.0, n.1, refl)
field_found l slots.Line w f e =
    let b = bind_ok (number_below (bound_of l slots.Line) w) (λ n. fields.Line n) f e in
    let n = number_ok (bound_of l slots.Line) w b.0 b.1 in
    subst (IsSpelled l slots.Line w) b.2 (n.0, n.1, refl)

field_back : (l : Limits) → AreSmall l → (f : Field) → IsWithin l f → field_at l (slot_in f) (field_word f) ≡ Ok f
field_back l small (fields.Cpu x) h = ap (λ (r : Result ℕ Kind). r >>= λ n. Ok (fields.Cpu (record { 0 = n }))) (number_back (bound_of l slots.Cpu) x.0 small.cpus h)
field_back l small (fields.Timer x) h = ap (λ (r : Result ℕ Kind). r >>= λ n. Ok (fields.Timer (record { 0 = n }))) (number_back (bound_of l slots.Timer) x.0 small.timers h)
field_back l small (fields.Class class) h = ap (λ (r : Result Class Kind). r >>= λ c. Ok (fields.Class c)) (class_back class)
field_back l small (fields.Time x) h = ap (λ (r : Result ℕ Kind). r >>= λ n. Ok (fields.Time n)) (number_back (bound_of l slots.Time) x (omega arith) h)
field_back l small (fields.Job x) h = ap (λ (r : Result ℕ Kind). r >>= λ n. Ok (fields.Job n)) (number_back (bound_of l slots.Job) x (omega arith) h)
field_back l small (fields.Arg x) h = ap (λ (r : Result ℕ Kind). r >>= λ n. Ok (fields.Arg n)) (number_back (bound_of l slots.Arg) x (omega arith) h)
field_back l small (fields.Line x) h = ap (λ (r : Result ℕ Kind). r >>= λ n. Ok (fields.Line n)) (number_back (bound_of l slots.Line) x (omega arith) h)

-- ---- all fields

record IsJoined (f : Result Field Kind) (gs : Result (List Field) Kind) (fs : List Field) : Type 0 where
  first : Field
  behind : List Field
  first_is : f ≡ Ok first
  behind_is : gs ≡ Ok behind
  whole : first ∷ behind ≡ fs

join_found : (f : Result Field Kind) (gs : Result (List Field) Kind) (fs : List Field) → joined_fields f gs ≡ Ok fs → IsJoined f gs fs
join_found (Ok f) (Ok gs) fs e = record { first = f; behind = gs; first_is = refl; behind_is = refl; whole = (let same : f ∷ gs ≡ fs = cc in same) }
join_found (Ok f) (Err k) fs e = absurd cc
join_found (Err j) (Ok gs) fs e = absurd cc
join_found (Err j) (Err k) fs e = absurd cc

abbrev pub AreSpelled : Limits → List Slot → List (List ℕ) → List Field → Type 0
AreSpelled l ss ws fs = (map field_word fs ≡ ws) × AreFieldsWithin l fs × (map slot_in fs ≡ ss)

pub fields_found : (l : Limits) (ss : List Slot) (ws : List (List ℕ)) (fs : List Field) → fields_of l ss ws ≡ Ok fs → AreSpelled l ss ws fs
unfolding fields_of
fields_found l [] [] fs e =
    let same : [] ≡ fs = cc in
    subst (AreSpelled l [] []) same (refl, tt, refl)
fields_found l [] (w ∷ ws) fs e = absurd cc
fields_found l (s ∷ ss) [] fs e = absurd cc
fields_found l (s ∷ ss) (w ∷ ws) fs e =
    let j = join_found (field_at l s w) (fields_of l ss ws) fs e in
    let one = field_found l s w j.first j.first_is in
    let rest = fields_found l ss ws j.behind j.behind_is in
    subst (AreSpelled l (s ∷ ss) (w ∷ ws)) j.whole ((λ i. one.0 i ∷ rest.0 i), (one.1, rest.1), (λ i. one.2 i ∷ rest.2 i))

pub fields_back : (l : Limits) → AreSmall l → (fs : List Field) → AreFieldsWithin l fs → fields_of l (map slot_in fs) (map field_word fs) ≡ Ok fs
unfolding fields_of
fields_back l small [] h = refl
fields_back l small (f ∷ fs) h = λ i. joined_fields (field_back l small f h.0 i) (fields_back l small fs h.1 i)

-- ---- the places of fields

abbrev pub as_slot : Slot → Field → Field
as_slot slots.Cpu f = fields.Cpu (cpu_by f)
as_slot slots.Timer f = fields.Timer (timer_by f)
as_slot slots.Class f = fields.Class (class_in_field f)
as_slot slots.Time f = fields.Time (time_by f)
as_slot slots.Job f = fields.Job (job_by f)
as_slot slots.Arg f = fields.Arg (arg_by f)
as_slot slots.Line f = fields.Line (line_in_field f)

as_own : (f : Field) → as_slot (slot_in f) f ≡ f
as_own (fields.Cpu x) = refl
as_own (fields.Timer x) = refl
as_own (fields.Class x) = refl
as_own (fields.Time x) = refl
as_own (fields.Job x) = refl
as_own (fields.Arg x) = refl
as_own (fields.Line x) = refl

abbrev pub retyped : List Slot → List Field → List Field
retyped [] fs = []
retyped (s ∷ ss) fs = as_slot s (head_field fs) ∷ retyped ss (rest_fields fs)

retyped_own : (fs : List Field) → retyped (map slot_in fs) fs ≡ fs
retyped_own [] = refl
retyped_own (f ∷ fs) = λ i. as_own f i ∷ retyped_own fs i

pub retyped_is : (ss : List Slot) (fs : List Field) → map slot_in fs ≡ ss → retyped ss fs ≡ fs
retyped_is ss fs e = ap (λ (x : List Slot). retyped x fs) (sym e) ∙ retyped_own fs

-- ---- no space and no line feed stands in a field

class_clear : (c : ℕ) (class : Class) → is_clear c (class_text Pinned) ≡ true → is_clear c (class_text Global) ≡ true → is_clear c (class_text Deferrable) ≡ true → is_clear c (class_text class) ≡ true
class_clear c Pinned p g d = p
class_clear c Global p g d = g
class_clear c Deferrable p g d = d

number_spaces : (n bound : ℕ) → bound ≤ 10 ^ 13 → n < bound → is_clear 32 (decimal n) ≡ true
number_spaces n bound few low = clear_decimal 32 n refl (omega (arith, few, low))

field_spaces : (l : Limits) → AreSmall l → (f : Field) → IsWithin l f → is_clear 32 (field_word f) ≡ true
field_spaces l small (fields.Cpu x) h = number_spaces x.0 (bound_of l slots.Cpu) small.cpus h
field_spaces l small (fields.Timer x) h = number_spaces x.0 (bound_of l slots.Timer) small.timers h
field_spaces l small (fields.Class class) h = class_clear 32 class refl refl refl
field_spaces l small (fields.Time x) h = number_spaces x (bound_of l slots.Time) (omega arith) h
field_spaces l small (fields.Job x) h = number_spaces x (bound_of l slots.Job) (omega arith) h
field_spaces l small (fields.Arg x) h = number_spaces x (bound_of l slots.Arg) (omega arith) h
field_spaces l small (fields.Line x) h = number_spaces x (bound_of l slots.Line) (omega arith) h

pub fields_spaces : (l : Limits) → AreSmall l → (fs : List Field) → AreFieldsWithin l fs → AreClear 32 (map field_word fs)
fields_spaces l small [] h = tt
fields_spaces l small (f ∷ fs) h = (field_spaces l small f h.0, fields_spaces l small fs h.1)

number_feeds : (n bound : ℕ) → bound ≤ 10 ^ 13 → n < bound → is_clear 10 (decimal n) ≡ true
number_feeds n bound few low = clear_decimal 10 n refl (omega (arith, few, low))

field_feeds : (l : Limits) → AreSmall l → (f : Field) → IsWithin l f → is_clear 10 (field_word f) ≡ true
field_feeds l small (fields.Cpu x) h = number_feeds x.0 (bound_of l slots.Cpu) small.cpus h
field_feeds l small (fields.Timer x) h = number_feeds x.0 (bound_of l slots.Timer) small.timers h
field_feeds l small (fields.Class class) h = class_clear 10 class refl refl refl
field_feeds l small (fields.Time x) h = number_feeds x (bound_of l slots.Time) (omega arith) h
field_feeds l small (fields.Job x) h = number_feeds x (bound_of l slots.Job) (omega arith) h
field_feeds l small (fields.Arg x) h = number_feeds x (bound_of l slots.Arg) (omega arith) h
field_feeds l small (fields.Line x) h = number_feeds x (bound_of l slots.Line) (omega arith) h

pub fields_feeds : (l : Limits) → AreSmall l → (fs : List Field) → AreFieldsWithin l fs → AreClear 10 (map field_word fs)
fields_feeds l small [] h = tt
fields_feeds l small (f ∷ fs) h = (field_feeds l small f h.0, fields_feeds l small fs h.1)
