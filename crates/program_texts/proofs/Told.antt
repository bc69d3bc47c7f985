-- for crates above: bytes that a source tells, and the one input that they spell
use Rattle.std.proofs.Common.{◌≡◌, ℕ, ◌+◌, List, [], ◌++◌, length, refl, sym, ap, ◌∙◌, arith, inl}
use Rattle.std.proofs.Common.{inr, Option, Some, None, subst, append-nil, ◌≤◌, ◌≢◌}
use Rattle.std.proofs.lemmas.List.{length-append}
use Rattle.std.proofs.lemmas.Option.{same_Some}
use Rattle.std.specs.Prelude.{Result, Ok, Err, ◌-◌, ◌^◌, OnErr}
use Rattle.std.specs.Io.KnownBytes.{Consumes, IsAtEnd}
use Rattle.tm_base.specs.declared.limits.TheConstants.{MOST_BYTES}
use Rattle.tm_io.specs.Seen.{SourceSeen, SourceUnbroken, SourceFailed}
use Rattle.tm_io.specs.Sources.{TakesUpTo, TakesAll, TakesCount}
use Rattle.tm_script.specs.declared.faults.ScriptFault.{ScriptFault}
use Rattle.program_texts.specs.declared.commands.Recipe.{Recipe}
use Rattle.program_texts.specs.declared.inputs.Form.{Form}
use Rattle.program_texts.specs.declared.inputs.Form.TheVariants as forms
use Rattle.program_texts.specs.declared.inputs.Input.{Input}
use Rattle.program_texts.specs.declared.inputs.Input.TheVariants as inputs
use Rattle.program_texts.specs.Brought.{BringsBy, ReadsInput, ReadsNone}
use Rattle.program_texts.specs.Inputs.{SpellsInput, IsInputRefusalOf}

-- ---- bytes that a source tells

-- what was read to the end of known bytes is these bytes
reads_known : (known bytes : List ℕ) (left : Option (List ℕ)) → Consumes (Some known) left bytes
    → IsAtEnd left → known ≡ bytes
reads_known known bytes None taken end = absurd taken
reads_known known bytes (Some rest) taken end =
    taken ∙ ap (λ (xs : List ℕ). bytes ++ xs) end ∙ append-nil bytes

-- known bytes of which some were taken are no fewer
takes_known : (known taken : List ℕ) (left : Option (List ℕ)) → Consumes (Some known) left taken
    → length taken ≤ length known
takes_known known taken None is = absurd is
takes_known known taken (Some rest) is =
    omega (arith, ap (λ (xs : List ℕ). length xs) is, length-append taken rest)

module _ (s t : SourceSeen) (known : List ℕ) (left : s.left ≡ Some known) where
  pub all_known : (bytes : List ℕ) → TakesAll s t MOST_BYTES bytes → known ≡ bytes
  all_known bytes all =
      let Gave : Option (List ℕ) → Type 0 = λ o. Consumes o t.left bytes in
      reads_known known bytes t.left (subst Gave left all.taken) all.end

  pub not_many : length known ≤ MOST_BYTES → TakesCount s t (MOST_BYTES + 1) → ⊥
  not_many few count =
      let Gave : Option (List ℕ) → Type 0 = λ o. Consumes o t.left count.0 in
      let many = takes_known known count.0 t.left (subst Gave left count.2) in
      absurd (omega (arith, many, count.1, few))

-- ---- what the bytes spell

-- bytes that are refused spell no input of that form
pub refuses : (form : Form) (bytes : List ℕ) (fault : ScriptFault)
    → IsInputRefusalOf form bytes fault → (input : Input) → SpellsInput form bytes input → ⊥
refuses forms.Script bytes fault is (inputs.Script script) spelled = is.1 script spelled
refuses forms.Script bytes fault is (inputs.Trace trace) spelled = spelled
refuses forms.Script bytes fault is (inputs.Works works) spelled = spelled
refuses forms.Trace bytes fault is (inputs.Script script) spelled = spelled
refuses forms.Trace bytes fault is (inputs.Trace trace) spelled = is.1 trace spelled
refuses forms.Trace bytes fault is (inputs.Works works) spelled = spelled
refuses forms.Works bytes fault is (inputs.Script script) spelled = spelled
refuses forms.Works bytes fault is (inputs.Trace trace) spelled = spelled
refuses forms.Works bytes fault is (inputs.Works works) spelled = is.1 works spelled

-- a form's bytes have one first fault
one_fault : (form : Form) (bytes : List ℕ) (f g : ScriptFault) → IsInputRefusalOf form bytes f
    → IsInputRefusalOf form bytes g → f ≡ g
one_fault forms.Script bytes f g x y = same_Some f g (sym x.0 ∙ y.0)
one_fault forms.Trace bytes f g x y = same_Some f g (sym x.0 ∙ y.0)
one_fault forms.Works bytes f g x y = same_Some f g (sym x.0 ∙ y.0)

-- a count that isn't at its end either rose or is as it was
pub not_both_ways : (s t : SourceSeen) → s.faults ≢ 2 ^ 64 - 1 → SourceFailed s t
    → SourceUnbroken s t → ⊥
not_both_ways s t counts (inl less) same = absurd (omega (arith, less, same))
not_both_ways s t counts (inr still) same = counts still.0

module _ (s t : SourceSeen) (known : List ℕ) (told : s.left ≡ Some known) where
  pub few_known : (bytes : List ℕ) → TakesAll s t MOST_BYTES bytes → length known ≤ MOST_BYTES
  few_known bytes all =
      let same = all_known s t known told bytes all in
      omega (arith, all.within, ap (λ (xs : List ℕ). length xs) same)

  pub same_bytes : (xs ys : List ℕ) → TakesAll s t MOST_BYTES xs → TakesAll s t MOST_BYTES ys
      → xs ≡ ys
  same_bytes xs ys x y = sym (all_known s t known told xs x) ∙ all_known s t known told ys y

  -- a command has one input
  pub one_input : (r : Option Recipe) (form : Form) (x y : Input) → BringsBy r form s t x
      → BringsBy r form s t y → x ≡ y
  one_input None form x y a b =
      let Spelled : List ℕ → Type 0 = λ bs. SpellsInput form bs x in
      b.only x (subst Spelled (same_bytes a.bytes b.bytes a.read b.read) a.spelled)
  one_input (Some recipe) form x y a b = a.made ∙ sym b.made

  -- what was read spells an input, or none
  pub none_spelled : (form : Form) (fault : ScriptFault) → ReadsNone form s t fault
      → (input : Input) → ReadsInput form s t input → ⊥
  none_spelled form fault none input read =
      let Spelled : List ℕ → Type 0 = λ bs. SpellsInput form bs input in
      let same = same_bytes read.bytes none.bytes read.read none.read in
      refuses form none.bytes fault none.refusal input (subst Spelled same read.spelled)

  -- .. and has one first fault
  pub first_fault : (form : Form) (f g : ScriptFault) → ReadsNone form s t f
      → ReadsNone form s t g → f ≡ g
  first_fault form f g x y =
      let Is : List ℕ → Type 0 = λ bs. IsInputRefusalOf form bs f in
      one_fault form y.bytes f g
      (subst Is (same_bytes x.bytes y.bytes x.read y.read) x.refusal) y.refusal

-- ---- what was read by then

reads_none : (left : Option (List ℕ)) → Consumes left left []
reads_none None = tt
reads_none (Some bytes) = refl

pub takes_up : (s t : SourceSeen) (bytes : List ℕ) → TakesAll s t MOST_BYTES bytes
    → TakesUpTo s t MOST_BYTES
takes_up s t bytes all = (length bytes, all.within, (bytes, refl, all.taken))

pub takes_none : (s : SourceSeen) → TakesUpTo s s MOST_BYTES
takes_none s = (0, omega arith, ([], refl, reads_none s.left))

-- a command that has its input has read no more than a script may have
pub brought_up : (s t : SourceSeen) (r : Option Recipe) (form : Form) (input : Input)
    → BringsBy r form s t input → TakesUpTo s t MOST_BYTES
brought_up s t None form input is = takes_up s t is.bytes is.read
brought_up s t (Some recipe) form input is =
    let Took : SourceSeen → Type 0 = λ x. TakesUpTo s x MOST_BYTES in
    subst Took (sym is.untouched) (takes_none s)

-- what holds in any case holds after an Err
pub on_err : {A E P : Type 0} (r : Result A E) → P → OnErr r P
on_err (Ok a) p = tt
on_err (Err e) p = p
