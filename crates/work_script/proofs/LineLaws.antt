-- a line that is read is spelled as what it says, and what a line says is read from it
use Rattle.std.proofs.Common.{◌≡◌, ℕ, ◌^◌, ◌<◌, ◌≤◌, Bool, true, false, cond, List, [], ◌∷◌, map, Option, Some, None, is_some, Result, Ok, Err, refl, sym, ap, subst, ◌∙◌, inl, inr, arith}
use Rattle.std.specs.Prelude.{codes, find}
use Rattle.std.specs.Fmt.{decimal}
use Rattle.std.specs.Str.{bytes_eq}
use Rattle.std.proofs.lemmas.Bool.{and_from, cases_Bool, cond-true, cond-false}
use Rattle.std.proofs.lemmas.List.Folds.{list_all-append}
use Rattle.std.proofs.lemmas.Slice.Eq.{bytes_eq-Decides}
use Rattle.text_words.specs.Words.{words_of, spaced}
use Rattle.text_words.proofs.Cuts.{is_clear, AreClear, words_again}
use Rattle.tm_base.specs.declared.limits.TheConstants.{SCRIPT_TIME_LIMIT}
use Rattle.tm_script.specs.declared.faults.Kind.{Kind}
use Rattle.tm_script.specs.declared.faults.Kind.TheVariants.{OutOfOrder, TooManyLines}
use Rattle.work_script.specs.declared.syntax.WorkOp.TheVariants as ops
use Rattle.work_script.specs.declared.words.NumberSlot.{NumberSlot}
use Rattle.work_script.specs.declared.words.WorkCommand.{WorkCommand}
use Rattle.work_script.specs.declared.words.WorkCommand.TheVariants.{At, Queue, Cancel, End}
use Rattle.work_script.specs.declared.words.WorkKnown.{WorkKnown}
use Rattle.work_script.specs.declared.words.WorkSaid.{WorkSaid}
use Rattle.work_script.specs.declared.words.WorkSaid.TheVariants.{Opening, Operation, Ending}
use Rattle.work_script.specs.Grammar.{IsWorkOp}
use Rattle.work_script.specs.Texts.{end_line, numbers_line, work_op_line}
use Rattle.work_script.specs.Reading.{work_command_of, work_line_heard, work_heard_behind, is_work_in_order, is_work_in_room, may_work_line_stand, numbers_of, work_admitted, said_by, work_said_or, slots_of, work_word_of}
use Rattle.work_script.specs.Steps.{AreWithin}
use Rattle.work_script.proofs.NumberLaws.{AreShort, numbers_back, numbers_feeds, numbers_found, numbers_spaces}

-- ---- first words

find_passes : {X : Type 0} (p : X → Bool) (xs : List X) (x : X) → find p xs ≡ Some x → p x ≡ true
find_passes p [] x e = absurd cc
find_passes p (y ∷ ys) x e =
    elim (cases_Bool (p y)) [
      | inl here ↦ let same : y ≡ x = let found = ap (λ (t : Bool). cond t (Some y) (find p ys)) (sym here) ∙ e in cc in ap p (sym same) ∙ here
      | inr out ↦ find_passes p ys x (ap (λ (t : Bool). cond t (Some y) (find p ys)) (sym out) ∙ e)
    ]

command_found : (word : List ℕ) (c : WorkCommand) → work_command_of word ≡ Some c → word ≡ work_word_of c
unfolding work_command_of
command_found word c e = (bytes_eq-Decides word (work_word_of c)).0 (find_passes (λ command. bytes_eq word (work_word_of command)) (At ∷ Queue ∷ Cancel ∷ End ∷ []) c e)

command_again : (c : WorkCommand) → work_command_of (work_word_of c) ≡ Some c
unfolding work_command_of
command_again At = refl
command_again Queue = refl
command_again Cancel = refl
command_again End = refl

word_spaces : (c : WorkCommand) → is_clear 32 (work_word_of c) ≡ true
word_spaces At = refl
word_spaces Queue = refl
word_spaces Cancel = refl
word_spaces End = refl

word_feeds : (c : WorkCommand) → is_clear 10 (work_word_of c) ≡ true
word_feeds At = refl
word_feeds Queue = refl
word_feeds Cancel = refl
word_feeds End = refl

-- ---- what may be said, and its line

abbrev pub said_line : WorkSaid → List ℕ
said_line (Opening at) = numbers_line (codes "at") (at ∷ [])
said_line (Operation op) = work_op_line op
said_line (Ending end) = end_line end

-- what a line may say here, with no regard to order and room
abbrev pub IsSaid : WorkKnown → WorkSaid → Type 0
IsSaid k (Opening at) = at < SCRIPT_TIME_LIMIT
IsSaid k (Operation op) = (is_some k.last ≡ true) × IsWorkOp k.count k.line op
IsSaid k (Ending end) = end < SCRIPT_TIME_LIMIT

pub record Fits (k : WorkKnown) (said : WorkSaid) : Type 0 where
  pub is : IsSaid k said
  pub order : is_work_in_order k said ≡ true
  pub room : is_work_in_room k said ≡ true

said_ok : (k : WorkKnown) (c : WorkCommand) (ns : List ℕ) → may_work_line_stand (is_some k.last) c ≡ true → AreWithin (slots_of k.count c) ns
    → (numbers_line (work_word_of c) ns ≡ said_line (said_by c k.line ns)) × IsSaid k (said_by c k.line ns)
said_ok k At [] stands h = absurd h
said_ok k At (a ∷ []) stands h = (refl, h.1)
said_ok k At (a ∷ b ∷ ns) stands h = absurd h.2
said_ok k End [] stands h = absurd h
said_ok k End (a ∷ []) stands h = (refl, h.1)
said_ok k End (a ∷ b ∷ ns) stands h = absurd h.2
said_ok k Cancel [] stands h = absurd h
said_ok k Cancel (a ∷ []) stands h = (refl, (stands, (refl, h.1)))
said_ok k Cancel (a ∷ b ∷ ns) stands h = absurd h.2
said_ok k Queue [] stands h = absurd h
said_ok k Queue (a ∷ []) stands h = absurd h.2
said_ok k Queue (a ∷ b ∷ []) stands h = absurd h.2.2
said_ok k Queue (a ∷ b ∷ c ∷ []) stands h = absurd h.2.2.2
said_ok k Queue (a ∷ b ∷ c ∷ d ∷ []) stands h =
    (refl, (stands, (refl, record { work_in_range = h.1; delay_in_range = h.2.1; job_in_range = h.2.2.1; arg_in_range = h.2.2.2.1 })))
said_ok k Queue (a ∷ b ∷ c ∷ d ∷ e ∷ ns) stands h = absurd h.2.2.2.2

-- ---- a line that is heard

placed_found : (k : WorkKnown) (said x : WorkSaid) → work_admitted k said ≡ Ok x → (said ≡ x) × (is_work_in_order k said ≡ true) × (is_work_in_room k said ≡ true)
placed_found k said x e = by (is_work_in_order k said) (is_work_in_room k said) refl refl e
  where
    by : (a b : Bool) → is_work_in_order k said ≡ a → is_work_in_room k said ≡ b → cond a (cond b (Ok said) (Err TooManyLines)) (Err OutOfOrder) ≡ Ok x → (said ≡ x) × (is_work_in_order k said ≡ true) × (is_work_in_room k said ≡ true)
    by true true o r h = ((let same : said ≡ x = cc in same), o, r)
    by true false o r h = absurd cc
    by false b o r h = absurd cc

pub record IsHeard (k : WorkKnown) (words : List (List ℕ)) (said : WorkSaid) : Type 0 where
  pub spelled : spaced words ≡ said_line said
  pub fits : Fits k said

or_found : (k : WorkKnown) (c : WorkCommand) (first : List ℕ) (behind : List (List ℕ)) (r : Result (List ℕ) Kind) (x : WorkSaid)
    → numbers_of (slots_of k.count c) behind ≡ r → first ≡ work_word_of c → may_work_line_stand (is_some k.last) c ≡ true → work_said_or k c r ≡ Ok x → IsHeard k (first ∷ behind) x
or_found k c first behind (Err kind) x is named stands e = absurd cc
or_found k c first behind (Ok ns) x is named stands e =
    let f = numbers_found (slots_of k.count c) behind ns is in
    let p = placed_found k (said_by c k.line ns) x e in
    let s = said_ok k c ns stands f.1 in
    subst (IsHeard k (first ∷ behind)) p.0 (record {
      spelled = (λ i. spaced (named i ∷ sym f.0 i)) ∙ s.0;
      fits = record { is = s.1; order = p.1; room = p.2 };
    })

behind_found : (k : WorkKnown) (o : Option WorkCommand) (first : List ℕ) (behind : List (List ℕ)) (x : WorkSaid) → work_command_of first ≡ o → work_heard_behind k o behind ≡ Ok x → IsHeard k (first ∷ behind) x
behind_found k None first behind x named e = absurd cc
behind_found k (Some c) first behind x named e = elim (cases_Bool (may_work_line_stand (is_some k.last) c)) [
  | inl stands ↦ or_found k c first behind (numbers_of (slots_of k.count c) behind) x refl (command_found first c named) stands
      (sym (cond-true (may_work_line_stand (is_some k.last) c) _ _ stands) ∙ e)
  | inr out ↦ absurd (let no = sym (cond-false (may_work_line_stand (is_some k.last) c) _ _ out) ∙ e in cc)
]

-- a line that says something is spelled so
pub heard_found : (k : WorkKnown) (words : List (List ℕ)) (x : WorkSaid) → work_line_heard k words ≡ Ok x → IsHeard k words x
unfolding work_line_heard
heard_found k [] x e = absurd cc
heard_found k (first ∷ behind) x e = behind_found k (work_command_of first) first behind x refl e

-- ---- again

bounds_short : (count : ℕ) (c : WorkCommand) → count ≤ 10 ^ 13 → AreShort (slots_of count c)
bounds_short count At few = (omega arith, tt)
bounds_short count Queue few = (few, (omega arith, (omega arith, (omega arith, tt))))
bounds_short count Cancel few = (few, tt)
bounds_short count End few = (omega arith, tt)

-- a command and numbers that say something
pub record IsBy (k : WorkKnown) (said : WorkSaid) : Type 0 where
  pub command : WorkCommand
  pub numbers : List ℕ
  pub within : AreWithin (slots_of k.count command) numbers
  pub stands : may_work_line_stand (is_some k.last) command ≡ true
  pub says : said_by command k.line numbers ≡ said
  pub line : said_line said ≡ numbers_line (work_word_of command) numbers

by_said : (k : WorkKnown) (said : WorkSaid) → IsSaid k said → IsBy k said
by_said k (Opening at) h = record { command = At; numbers = at ∷ []; within = (omega arith, h, tt); stands = refl; says = refl; line = refl }
by_said k (Ending end) h = record { command = End; numbers = end ∷ []; within = (omega arith, h, tt); stands = refl; says = refl; line = refl }
by_said k (Operation (ops.Queue line work delay job arg)) h =
    let q = h.1.1 in
    record {
      command = Queue;
      numbers = work ∷ delay ∷ job ∷ arg ∷ [];
      within = (omega arith, q.work_in_range, (omega arith, q.delay_in_range, (omega arith, q.job_in_range, (omega arith, q.arg_in_range, tt))));
      stands = h.0;
      says = (λ i. Operation (ops.Queue (sym h.1.0 i) work delay job arg));
      line = refl;
    }
by_said k (Operation (ops.Cancel line work)) h = record {
  command = Cancel;
  numbers = work ∷ [];
  within = (omega arith, h.1.1, tt);
  stands = h.0;
  says = (λ i. Operation (ops.Cancel (sym h.1.0 i) work));
  line = refl;
}

placed_back : (k : WorkKnown) (said : WorkSaid) → is_work_in_order k said ≡ true → is_work_in_room k said ≡ true → work_admitted k said ≡ Ok said
placed_back k said order room = cond-true (is_work_in_order k said) _ _ order ∙ cond-true (is_work_in_room k said) _ _ room

-- what a line may say is read from its line
pub heard_back : (k : WorkKnown) (said : WorkSaid) → k.count ≤ 10 ^ 13 → Fits k said → work_line_heard k (words_of (said_line said)) ≡ Ok said
unfolding work_line_heard
heard_back k said few f =
    let b = by_said k said f.is in
    let short = bounds_short k.count b.command few in
    ap (λ (l : List ℕ). work_line_heard k (words_of l)) b.line
    ∙ ap (work_line_heard k) (words_again (work_word_of b.command) (map decimal b.numbers) (word_spaces b.command, numbers_spaces (slots_of k.count b.command) b.numbers short b.within))
    ∙ ap (λ (o : Option WorkCommand). work_heard_behind k o (map decimal b.numbers)) (command_again b.command)
    ∙ cond-true (may_work_line_stand (is_some k.last) b.command) _ _ b.stands
    ∙ ap (work_said_or k b.command) (numbers_back (slots_of k.count b.command) b.numbers short b.within)
    ∙ ap (work_admitted k) b.says
    ∙ placed_back k said f.order f.room

-- ---- no line feed stands in a line

clear_spaced : (first : List ℕ) (ws : List (List ℕ)) → AreClear 10 (first ∷ ws) → is_clear 10 (spaced (first ∷ ws)) ≡ true
clear_spaced first [] h = h.0
clear_spaced first (w ∷ ws) h = rw list_all-append (and_from _ _ h.0 (clear_spaced w ws h.1))

pub said_clear : (k : WorkKnown) (said : WorkSaid) → k.count ≤ 10 ^ 13 → IsSaid k said → is_clear 10 (said_line said) ≡ true
said_clear k said few is =
    let b = by_said k said is in
    ap (is_clear 10) b.line
    ∙ clear_spaced (work_word_of b.command) (map decimal b.numbers) (word_feeds b.command, numbers_feeds (slots_of k.count b.command) b.numbers (bounds_short k.count b.command few) b.within)

pub count_clear : (ss : List NumberSlot) (ns : List ℕ) → AreShort ss → AreWithin ss ns → is_clear 10 (numbers_line (codes "count") ns) ≡ true
count_clear ss ns short within = clear_spaced (codes "count") (map decimal ns) (refl, numbers_feeds ss ns short within)

pub count_spaces : (ss : List NumberSlot) (ns : List ℕ) → AreShort ss → AreWithin ss ns → words_of (numbers_line (codes "count") ns) ≡ codes "count" ∷ map decimal ns
count_spaces ss ns short within = words_again (codes "count") (map decimal ns) (refl, numbers_spaces ss ns short within)
