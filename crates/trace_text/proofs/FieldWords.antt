-- words and the fields that they say
use Rattle.std.proofs.Common.{◌≡◌, ℕ, ◌<◌, List, [], ◌∷◌, length, Option, Some, Err, sym, ap, ◌∙◌, arith}
use Rattle.text_words.proofs.Cuts.{split_some}
use Rattle.tm_script.specs.declared.faults.Kind.TheVariants.{BadLine}
use Rattle.trace_text.specs.declared.words.Limits.{Limits}
use Rattle.trace_text.specs.declared.words.Slot.{Slot}
use Rattle.trace_text.specs.Reading.{fields_of}
use Rattle.trace_text.specs.Steps.{trace_words_behind}

-- a word too many
pub one_more : (l : Limits) (ss : List Slot) (o : Option (List ℕ)) (w : List ℕ) → length ss < 1
    → o ≡ Some w → Err BadLine ≡ fields_of l ss (trace_words_behind o)
unfolding fields_of
one_more l [] o w none e =
    let some = split_some 32 w in
    sym (ap (λ (x : Option (List ℕ)). fields_of l [] (trace_words_behind x)) e ∙ ap (fields_of l []) some.2)
one_more l (s ∷ ss) o w none e = absurd (omega (arith, none))
