-- for crates above: a line that is read is spelled as what it says, and what a line says is read from it
use Rattle.std.proofs.Common.{◌≡◌, ℕ, ◌≤◌, Bool, true, cond, leb, List, [], ◌∷◌, map, Option, Some, None, Result, Ok, Err, refl, sym, ap, subst, ◌∙◌, inl, inr}
use Rattle.std.specs.Prelude.{codes, find}
use Rattle.std.specs.Str.{bytes_eq}
use Rattle.std.proofs.lemmas.Bool.{and_from, cases_Bool, cond-true, cond-false, leb-true, le-leb}
use Rattle.std.proofs.lemmas.List.Folds.{list_all-append}
use Rattle.std.proofs.lemmas.Option.{same_Some}
use Rattle.std.proofs.lemmas.Slice.Eq.{bytes_eq-Decides}
use Rattle.text_words.specs.Words.{words_of, spaced}
use Rattle.text_words.proofs.Cuts.{is_clear, AreClear, words_again}
use Rattle.tm_base.specs.declared.limits.TheConstants.{MOST_LINES}
use Rattle.tm_script.specs.declared.faults.Kind.{Kind}
use Rattle.tm_script.specs.declared.faults.Kind.TheVariants.{TooManyLines}
use Rattle.core_world.specs.declared.step.Step.TheVariants as steps
use Rattle.trace_text.specs.declared.traces.TraceLine.{TraceLine}
use Rattle.trace_text.specs.declared.traces.TraceLine.TheVariants as lines
use Rattle.trace_text.specs.declared.words.Limits.{Limits}
use Rattle.trace_text.specs.declared.words.Command.{Command}
use Rattle.trace_text.specs.declared.words.Command.TheVariants as commands
use Rattle.trace_text.specs.declared.words.Field.{Field}
use Rattle.trace_text.specs.Lines.{AreFieldsWithin, IsLine, command_in, field_word, fields_in, trace_line_text, field_slots_of, trace_word_of}
use Rattle.trace_text.specs.Reading.{all_trace_commands, command_for, fields_of, line_heard, trace_in_room, said_in_trace, trace_said_by, trace_said_or}
use Rattle.trace_text.proofs.FieldLaws.{AreSmall, fields_back, fields_feeds, fields_found, fields_spaces, retyped_is, slot_in}

-- ---- first words

find_passes : {X : Type 0} (p : X → Bool) (xs : List X) (x : X) → find p xs ≡ Some x → p x ≡ true
find_passes p [] x e = absurd cc
find_passes p (y ∷ ys) x e =
    elim (cases_Bool (p y)) [
      | inl here ↦ let same : y ≡ x = let found = ap (λ (t : Bool). cond t (Some y) (find p ys)) (sym here) ∙ e in cc in ap p (sym same) ∙ here
      | inr out ↦ find_passes p ys x (ap (λ (t : Bool). cond t (Some y) (find p ys)) (sym out) ∙ e)
    ]

command_found : (word : List ℕ) (c : Command) → command_for word ≡ Some c → word ≡ trace_word_of c
unfolding command_for
command_found word c e = (bytes_eq-Decides word (trace_word_of c)).0 (find_passes (λ command. bytes_eq word (trace_word_of command)) all_trace_commands c e)

command_again : (c : Command) → command_for (trace_word_of c) ≡ Some c
unfolding command_for
command_again commands.Clock = refl
command_again commands.Enter = refl
command_again commands.Leave = refl
command_again commands.Arm = refl
command_again commands.Cancel = refl
command_again commands.Hand = refl
command_again commands.Ticked = refl
command_again commands.Move = refl
command_again commands.Idle = refl
command_again commands.Wake = refl
command_again commands.Offline = refl
command_again commands.Online = refl
command_again commands.Reeval = refl
command_again commands.Take = refl
command_again commands.Carry = refl
command_again commands.Release = refl
command_again commands.Walk = refl
command_again commands.HandOn = refl
command_again commands.Why = refl
command_again commands.End = refl

word_spaces : (c : Command) → is_clear 32 (trace_word_of c) ≡ true
word_spaces commands.Clock = refl
word_spaces commands.Enter = refl
word_spaces commands.Leave = refl
word_spaces commands.Arm = refl
word_spaces commands.Cancel = refl
word_spaces commands.Hand = refl
word_spaces commands.Ticked = refl
word_spaces commands.Move = refl
word_spaces commands.Idle = refl
word_spaces commands.Wake = refl
word_spaces commands.Offline = refl
word_spaces commands.Online = refl
word_spaces commands.Reeval = refl
word_spaces commands.Take = refl
word_spaces commands.Carry = refl
word_spaces commands.Release = refl
word_spaces commands.Walk = refl
word_spaces commands.HandOn = refl
word_spaces commands.Why = refl
word_spaces commands.End = refl

word_feeds : (c : Command) → is_clear 10 (trace_word_of c) ≡ true
word_feeds commands.Clock = refl
word_feeds commands.Enter = refl
word_feeds commands.Leave = refl
word_feeds commands.Arm = refl
word_feeds commands.Cancel = refl
word_feeds commands.Hand = refl
word_feeds commands.Ticked = refl
word_feeds commands.Move = refl
word_feeds commands.Idle = refl
word_feeds commands.Wake = refl
word_feeds commands.Offline = refl
word_feeds commands.Online = refl
word_feeds commands.Reeval = refl
word_feeds commands.Take = refl
word_feeds commands.Carry = refl
word_feeds commands.Release = refl
word_feeds commands.Walk = refl
word_feeds commands.HandOn = refl
word_feeds commands.Why = refl
word_feeds commands.End = refl

-- ---- fields

places_match : (line : TraceLine) → map slot_in (fields_in line) ≡ field_slots_of (command_in line)
places_match (lines.Do (steps.Clock now)) = refl
places_match (lines.Do (steps.Enter cpu)) = refl
places_match (lines.Do (steps.Leave cpu)) = refl
places_match (lines.Do (steps.Arm cpu timer class expires job arg line)) = refl
places_match (lines.Do (steps.Cancel cpu timer by line)) = refl
places_match (lines.Do (steps.Hand cpu timer runner)) = refl
places_match (lines.Do (steps.Ticked cpu class runner)) = refl
places_match (lines.Do (steps.Move from to timer)) = refl
places_match (lines.Do (steps.Idle cpu)) = refl
places_match (lines.Do (steps.Wake cpu)) = refl
places_match (lines.Do (steps.Offline cpu)) = refl
places_match (lines.Do (steps.Online cpu)) = refl
places_match (lines.Do (steps.Reeval cpu)) = refl
places_match (lines.Do (steps.Take cpu by)) = refl
places_match (lines.Do (steps.Carry cpu)) = refl
places_match (lines.Do (steps.Release cpu)) = refl
places_match (lines.Do (steps.Walk cpu)) = refl
places_match (lines.Do (steps.HandOn cpu to)) = refl
places_match (lines.Why cpu timer) = refl

said_back : (line : TraceLine) → trace_said_by (command_in line) (fields_in line) ≡ Some line
said_back (lines.Do (steps.Clock now)) = refl
said_back (lines.Do (steps.Enter cpu)) = refl
said_back (lines.Do (steps.Leave cpu)) = refl
said_back (lines.Do (steps.Arm cpu timer class expires job arg line)) = refl
said_back (lines.Do (steps.Cancel cpu timer by line)) = refl
said_back (lines.Do (steps.Hand cpu timer runner)) = refl
said_back (lines.Do (steps.Ticked cpu class runner)) = refl
said_back (lines.Do (steps.Move from to timer)) = refl
said_back (lines.Do (steps.Idle cpu)) = refl
said_back (lines.Do (steps.Wake cpu)) = refl
said_back (lines.Do (steps.Offline cpu)) = refl
said_back (lines.Do (steps.Online cpu)) = refl
said_back (lines.Do (steps.Reeval cpu)) = refl
said_back (lines.Do (steps.Take cpu by)) = refl
said_back (lines.Do (steps.Carry cpu)) = refl
said_back (lines.Do (steps.Release cpu)) = refl
said_back (lines.Do (steps.Walk cpu)) = refl
said_back (lines.Do (steps.HandOn cpu to)) = refl
said_back (lines.Why cpu timer) = refl

-- the line has this first word and these fields
abbrev Has : Command → List Field → TraceLine → Type 0
Has c fs line = (command_in line ≡ c) × (fields_in line ≡ fs)

said_found : (c : Command) (fs : List Field) (line : TraceLine) → map slot_in fs ≡ field_slots_of c → trace_said_by c fs ≡ Some line → Has c fs line
said_found commands.Clock fs line m e = subst (Has commands.Clock fs) (same_Some _ line e) (refl, retyped_is (field_slots_of commands.Clock) fs m)
said_found commands.Enter fs line m e = subst (Has commands.Enter fs) (same_Some _ line e) (refl, retyped_is (field_slots_of commands.Enter) fs m)
said_found commands.Leave fs line m e = subst (Has commands.Leave fs) (same_Some _ line e) (refl, retyped_is (field_slots_of commands.Leave) fs m)
said_found commands.Arm fs line m e = subst (Has commands.Arm fs) (same_Some _ line e) (refl, retyped_is (field_slots_of commands.Arm) fs m)
said_found commands.Cancel fs line m e = subst (Has commands.Cancel fs) (same_Some _ line e) (refl, retyped_is (field_slots_of commands.Cancel) fs m)
said_found commands.Hand fs line m e = subst (Has commands.Hand fs) (same_Some _ line e) (refl, retyped_is (field_slots_of commands.Hand) fs m)
said_found commands.Ticked fs line m e = subst (Has commands.Ticked fs) (same_Some _ line e) (refl, retyped_is (field_slots_of commands.Ticked) fs m)
said_found commands.Move fs line m e = subst (Has commands.Move fs) (same_Some _ line e) (refl, retyped_is (field_slots_of commands.Move) fs m)
said_found commands.Idle fs line m e = subst (Has commands.Idle fs) (same_Some _ line e) (refl, retyped_is (field_slots_of commands.Idle) fs m)
said_found commands.Wake fs line m e = subst (Has commands.Wake fs) (same_Some _ line e) (refl, retyped_is (field_slots_of commands.Wake) fs m)
said_found commands.Offline fs line m e = subst (Has commands.Offline fs) (same_Some _ line e) (refl, retyped_is (field_slots_of commands.Offline) fs m)
said_found commands.Online fs line m e = subst (Has commands.Online fs) (same_Some _ line e) (refl, retyped_is (field_slots_of commands.Online) fs m)
said_found commands.Reeval fs line m e = subst (Has commands.Reeval fs) (same_Some _ line e) (refl, retyped_is (field_slots_of commands.Reeval) fs m)
said_found commands.Take fs line m e = subst (Has commands.Take fs) (same_Some _ line e) (refl, retyped_is (field_slots_of commands.Take) fs m)
said_found commands.Carry fs line m e = subst (Has commands.Carry fs) (same_Some _ line e) (refl, retyped_is (field_slots_of commands.Carry) fs m)
said_found commands.Release fs line m e = subst (Has commands.Release fs) (same_Some _ line e) (refl, retyped_is (field_slots_of commands.Release) fs m)
said_found commands.Walk fs line m e = subst (Has commands.Walk fs) (same_Some _ line e) (refl, retyped_is (field_slots_of commands.Walk) fs m)
said_found commands.HandOn fs line m e = subst (Has commands.HandOn fs) (same_Some _ line e) (refl, retyped_is (field_slots_of commands.HandOn) fs m)
said_found commands.Why fs line m e = subst (Has commands.Why fs) (same_Some _ line e) (refl, retyped_is (field_slots_of commands.Why) fs m)
said_found commands.End fs line m e = absurd cc

end_found : (c : Command) (fs : List Field) → trace_said_by c fs ≡ None → c ≡ commands.End
end_found commands.Clock fs e = absurd cc
end_found commands.Enter fs e = absurd cc
end_found commands.Leave fs e = absurd cc
end_found commands.Arm fs e = absurd cc
end_found commands.Cancel fs e = absurd cc
end_found commands.Hand fs e = absurd cc
end_found commands.Ticked fs e = absurd cc
end_found commands.Move fs e = absurd cc
end_found commands.Idle fs e = absurd cc
end_found commands.Wake fs e = absurd cc
end_found commands.Offline fs e = absurd cc
end_found commands.Online fs e = absurd cc
end_found commands.Reeval fs e = absurd cc
end_found commands.Take fs e = absurd cc
end_found commands.Carry fs e = absurd cc
end_found commands.Release fs e = absurd cc
end_found commands.Walk fs e = absurd cc
end_found commands.HandOn fs e = absurd cc
end_found commands.Why fs e = absurd cc
end_found commands.End fs e = refl

no_fields : (fs : List Field) → map slot_in fs ≡ [] → fs ≡ []
no_fields [] e = refl
no_fields (f ∷ fs) e = absurd cc

-- ---- lines

record IsHeard (l : Limits) (words : List (List ℕ)) (said : Option TraceLine) : Type 0 where
  command : Command
  fs : List Field
  spelled : trace_word_of command ∷ map field_word fs ≡ words
  within : fields_of l (field_slots_of command) (map field_word fs) ≡ Ok fs
  says : trace_said_by command fs ≡ said

or_found : (l : Limits) (c : Command) (first : List ℕ) (behind : List (List ℕ)) (r : Result (List Field) Kind) (said : Option TraceLine) → fields_of l (field_slots_of c) behind ≡ r → first ≡ trace_word_of c → trace_said_or c r ≡ Ok said → IsHeard l (first ∷ behind) said
or_found l c first behind (Err k) said is named e = absurd cc
or_found l c first behind (Ok fs) said is named e =
    let f = fields_found l (field_slots_of c) behind fs is in
    record {
      command = c;
      fs = fs;
      spelled = (λ i. sym named i ∷ f.0 i);
      within = ap (fields_of l (field_slots_of c)) f.0 ∙ is;
      says = (let same : trace_said_by c fs ≡ said = cc in same);
    }

behind_found : (l : Limits) (o : Option Command) (first : List ℕ) (behind : List (List ℕ)) (said : Option TraceLine) → command_for first ≡ o → said_in_trace l o behind ≡ Ok said → IsHeard l (first ∷ behind) said
unfolding said_in_trace
behind_found l None first behind said named e = absurd cc
behind_found l (Some c) first behind said named e = or_found l c first behind (fields_of l (field_slots_of c) behind) said refl (command_found first c named) e

room_found : (line : ℕ) (r : Result (Option TraceLine) Kind) (said : Option TraceLine) → trace_in_room line r ≡ Ok said → (r ≡ Ok said) × (line ≤ MOST_LINES)
room_found line (Err k) said e = absurd cc
room_found line (Ok x) said e = elim (cases_Bool (leb line MOST_LINES)) [
  | inl fits ↦ (sym (cond-true (leb line MOST_LINES) (Ok x) (Err TooManyLines) fits) ∙ e, leb-true line MOST_LINES fits)
  | inr far ↦ absurd (let no = sym (cond-false (leb line MOST_LINES) (Ok x) (Err TooManyLines) far) ∙ e in cc)
]

heard_found : (l : Limits) (line : ℕ) (words : List (List ℕ)) (said : Option TraceLine) → line_heard l line words ≡ Ok said → IsHeard l words said × (line ≤ MOST_LINES)
unfolding line_heard
heard_found l line [] said e = absurd cc
heard_found l line (first ∷ behind) said e =
    let room = room_found line (said_in_trace l (command_for first) behind) said e in
    (behind_found l (command_for first) first behind said refl room.0, room.1)

-- a line that says something is spelled so
pub line_found : (l : Limits) (n : ℕ) (words : List (List ℕ)) (line : TraceLine) → line_heard l n words ≡ Ok (Some line) → (spaced words ≡ trace_line_text line) × IsLine l line × (n ≤ MOST_LINES)
line_found l n words line e =
    let h = heard_found l n words (Some line) e in
    let x = h.0 in
    let f = fields_found l (field_slots_of x.command) (map field_word x.fs) x.fs x.within in
    let has = said_found x.command x.fs line f.2 x.says in (
      ap spaced (sym x.spelled) ∙ (λ i. spaced (trace_word_of (sym has.0 i) ∷ map field_word (sym has.1 i))),
      subst (λ (fs : List Field). AreFieldsWithin l fs) (sym has.1) f.1,
      h.1,
    )

pub last_found : (l : Limits) (n : ℕ) (words : List (List ℕ)) → line_heard l n words ≡ Ok None → (spaced words ≡ codes "end") × (n ≤ MOST_LINES)
last_found l n words e =
    let h = heard_found l n words None e in
    let x = h.0 in
    let f = fields_found l (field_slots_of x.command) (map field_word x.fs) x.fs x.within in
    let end = end_found x.command x.fs x.says in
    let none = no_fields x.fs (f.2 ∙ ap field_slots_of end) in
    (ap spaced (sym x.spelled) ∙ (λ i. spaced (trace_word_of (end i) ∷ map field_word (none i))), h.1)

-- ---- again

heard_back : (l : Limits) (n : ℕ) (c : Command) (fs : List Field) (said : Option TraceLine) → n ≤ MOST_LINES → fields_of l (field_slots_of c) (map field_word fs) ≡ Ok fs → trace_said_by c fs ≡ said → line_heard l n (trace_word_of c ∷ map field_word fs) ≡ Ok said
unfolding line_heard said_in_trace
heard_back l n c fs said room within says =
    ap (λ (o : Option Command). trace_in_room n (said_in_trace l o (map field_word fs))) (command_again c)
    ∙ ap (λ (r : Result (List Field) Kind). trace_in_room n (trace_said_or c r)) within
    ∙ cond-true (leb n MOST_LINES) (Ok (trace_said_by c fs)) (Err TooManyLines) (le-leb n MOST_LINES room)
    ∙ ap (λ (s : Option TraceLine). Ok s) says

pub line_back : (l : Limits) → AreSmall l → (n : ℕ) (line : TraceLine) → n ≤ MOST_LINES → IsLine l line → line_heard l n (words_of (trace_line_text line)) ≡ Ok (Some line)
line_back l small n line room is =
    let c = command_in line in
    let fs = fields_in line in
    ap (line_heard l n) (words_again (trace_word_of c) (map field_word fs) (word_spaces c, fields_spaces l small fs is))
    ∙ heard_back l n c fs (Some line) room (ap (λ ss. fields_of l ss (map field_word fs)) (sym (places_match line)) ∙ fields_back l small fs is) (said_back line)

none_back : (l : Limits) → fields_of l [] [] ≡ Ok []
unfolding fields_of
none_back l = refl

pub last_back : (l : Limits) (n : ℕ) → n ≤ MOST_LINES → line_heard l n (words_of (codes "end")) ≡ Ok None
last_back l n room =
    ap (line_heard l n) (words_again (codes "end") [] (refl, tt)) ∙ heard_back l n commands.End [] None room (none_back l) refl

-- ---- no line feed stands in a line

clear_spaced : (first : List ℕ) (ws : List (List ℕ)) → AreClear 10 (first ∷ ws) → is_clear 10 (spaced (first ∷ ws)) ≡ true
clear_spaced first [] h = h.0
clear_spaced first (w ∷ ws) h = rw list_all-append (and_from _ _ h.0 (clear_spaced w ws h.1))

pub line_clear : (l : Limits) → AreSmall l → (line : TraceLine) → IsLine l line → is_clear 10 (trace_line_text line) ≡ true
line_clear l small line is = clear_spaced (trace_word_of (command_in line)) (map field_word (fields_in line)) (word_feeds (command_in line), fields_feeds l small (fields_in line) is)
