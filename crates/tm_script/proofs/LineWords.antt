-- the words of a line: its first word and where it may stand, numbers, and classes
use Rattle.std.proofs.Common.{◌≡◌, ℕ, ◌^◌, ◌<◌, ◌≤◌, Bool, true, false, cond, ◌&&◌, ◌||◌, eqb, ltb, leb, List, [], ◌∷◌, Some, refl, sym, ap, ◌∙◌, arith, inl, inr}
use Rattle.std.specs.Prelude.{codes, find}
use Rattle.std.specs.Fmt.{decimal}
use Rattle.std.specs.List.{list_any}
use Rattle.std.specs.Str.{bytes_eq}
use Rattle.std.proofs.lemmas.Bool.{and_parts, and_from, or_cases, ltb-true, leb-true, lt-ltb, le-leb, cases_Bool, eqb-false, ne_eqb, false≢true}
use Rattle.std.proofs.lemmas.Slice.Eq.{bytes_eq-Decides}
use Rattle.text_words.specs.Numbers.{is_number, value_of}
use Rattle.text_words.proofs.Cuts.{is_clear}
use Rattle.text_words.proofs.Digits.{word_found, word_again, clear_decimal}
use Rattle.tm_base.specs.Classes.{class_text}
use Rattle.tm_base.specs.declared.names.Class.{Class}
use Rattle.tm_base.specs.declared.names.Class.TheVariants.{Pinned, Global, Deferrable}
use Rattle.tm_script.specs.declared.known.Place.{Place}
use Rattle.tm_script.specs.declared.known.Place.TheVariants.{VersionLine, NodesLine, CpusLine, TimersLine, IsolatedLine, Body}
use Rattle.tm_script.specs.declared.known.Command.{Command}
use Rattle.tm_script.specs.declared.known.Command.TheVariants.{Tmig, Nodes, Cpus, Timers, Isolated, At, End, Arm, Cancel, Idle, Wake, Offline, Online}
use Rattle.tm_script.specs.Grammar.{IsClassOf}
use Rattle.tm_script.specs.Judge.{word_of, may_stand, class_words, is_operation}
use Rattle.tm_script.specs.Faults.{all_commands, command_of, class_named}

-- ---- first words and places

find_passes : {X : Type 0} (p : X → Bool) (xs : List X) (x : X) → find p xs ≡ Some x → p x ≡ true
find_passes p [] x e = absurd cc
find_passes p (y ∷ ys) x e =
    elim (cases_Bool (p y)) [
      | inl here ↦ let same : y ≡ x = let found = ap (λ (t : Bool). cond t (Some y) (find p ys)) (sym here) ∙ e in cc in ap p (sym same) ∙ here
      | inr out ↦ find_passes p ys x (ap (λ (t : Bool). cond t (Some y) (find p ys)) (sym out) ∙ e)
    ]

pub command_found : (word : List ℕ) (c : Command) → command_of word ≡ Some c → word ≡ word_of c
unfolding command_of
command_found word c e = (bytes_eq-Decides word (word_of c)).0 (find_passes (λ command. bytes_eq word (word_of command)) all_commands c e)

pub command_again : (c : Command) → command_of (word_of c) ≡ Some c
unfolding command_of
command_again Tmig = refl
command_again Nodes = refl
command_again Cpus = refl
command_again Timers = refl
command_again Isolated = refl
command_again At = refl
command_again End = refl
command_again Arm = refl
command_again Cancel = refl
command_again Idle = refl
command_again Wake = refl
command_again Offline = refl
command_again Online = refl

abbrev pub line_place : Command → Place
line_place Tmig = VersionLine
line_place Nodes = NodesLine
line_place Cpus = CpusLine
line_place Timers = TimersLine
line_place Isolated = IsolatedLine
line_place _ = Body

pub stands_at : (p : Place) (i : Bool) (c : Command) → may_stand p i c ≡ true → p ≡ line_place c
stands_at VersionLine i Tmig e = refl
stands_at NodesLine i Nodes e = refl
stands_at CpusLine i Cpus e = refl
stands_at TimersLine i Timers e = refl
stands_at IsolatedLine i Isolated e = refl
stands_at Body i At e = refl
stands_at Body i End e = refl
stands_at Body i Arm e = refl
stands_at Body i Cancel e = refl
stands_at Body i Idle e = refl
stands_at Body i Wake e = refl
stands_at Body i Offline e = refl
stands_at Body i Online e = refl
stands_at p i c e = absurd (false≢true e)

body_of : (c : Command) → is_operation c ≡ true → line_place c ≡ Body
body_of Arm t = refl
body_of Cancel t = refl
body_of Idle t = refl
body_of Wake t = refl
body_of Offline t = refl
body_of Online t = refl
body_of c t = absurd (false≢true t)

inside_body : (i : Bool) (c : Command) → is_operation c ≡ true → may_stand Body i c ≡ true → i ≡ true
inside_body i Arm t e = e
inside_body i Cancel t e = e
inside_body i Idle t e = e
inside_body i Wake t e = e
inside_body i Offline t e = e
inside_body i Online t e = e
inside_body i c t e = absurd (false≢true t)

pub stands_inside : (p : Place) (i : Bool) (c : Command) → is_operation c ≡ true → may_stand p i c ≡ true → i ≡ true
stands_inside p i c t e = inside_body i c t (ap (λ (q : Place). may_stand q i c) (sym (stands_at p i c e ∙ body_of c t)) ∙ e)

-- ---- numbers

pub record IsNumber (least bound : ℕ) (w : List ℕ) : Type 0 where
  pub spelled : decimal (value_of w) ≡ w
  pub low : least ≤ value_of w
  pub high : value_of w < bound

pub number_facts : (least bound : ℕ) (w : List ℕ) → is_number w ≡ true → (leb least (value_of w) && ltb (value_of w) bound) ≡ true → IsNumber least bound w
number_facts least bound w spelled limits =
    let both = and_parts _ _ limits in
    record { spelled = (word_found w spelled).0; low = leb-true _ _ both.0; high = ltb-true _ _ both.1 }

pub number_inside : (least bound n : ℕ) → n < 10 ^ 13 → least ≤ n → n < bound → (leb least (value_of (decimal n)) && ltb (value_of (decimal n)) bound) ≡ true
number_inside least bound n wide low high =
    let value = (word_again n wide).1 in
    and_from _ _ (ap (leb least) value ∙ le-leb least n low) (ap (λ (v : ℕ). ltb v bound) value ∙ lt-ltb n bound high)

pub clear_number : (n : ℕ) → n < 10 ^ 13 → is_clear 32 (decimal n) ≡ true
clear_number n wide = clear_decimal 32 n refl (omega arith)

-- ---- classes

last_class : (version : ℕ) (word : List ℕ) (one : Bool) → eqb version 1 ≡ one → list_any (bytes_eq word) (cond one [] (codes "deferrable" ∷ [])) ≡ true → (word ≡ codes "deferrable") × IsClassOf version Deferrable
last_class version word true e h = absurd (false≢true h)
last_class version word false e h =
    elim (or_cases _ _ h) [
      | inl here ↦ ((bytes_eq-Decides word (codes "deferrable")).0 here, eqb-false version 1 e)
      | inr none ↦ absurd (false≢true none)
    ]

class_row : (version : ℕ) (word : List ℕ) (p g : Bool) → bytes_eq word (codes "pinned") ≡ p → bytes_eq word (codes "global") ≡ g
    → (p || (g || list_any (bytes_eq word) (cond (eqb version 1) [] (codes "deferrable" ∷ [])))) ≡ true
    → (word ≡ class_text (cond p Pinned (cond g Global Deferrable))) × IsClassOf version (cond p Pinned (cond g Global Deferrable))
class_row version word true g ep eg h = ((bytes_eq-Decides word (codes "pinned")).0 ep, tt)
class_row version word false true ep eg h = ((bytes_eq-Decides word (codes "global")).0 eg, tt)
class_row version word false false ep eg h = last_class version word (eqb version 1) refl h

pub class_found : (version : ℕ) (word : List ℕ) → list_any (bytes_eq word) (class_words version) ≡ true → (word ≡ class_text (class_named word)) × IsClassOf version (class_named word)
unfolding class_named
class_found version word e = class_row version word (bytes_eq word (codes "pinned")) (bytes_eq word (codes "global")) refl refl e

pub class_again : (class : Class) → class_named (class_text class) ≡ class
unfolding class_named
class_again Pinned = refl
class_again Global = refl
class_again Deferrable = refl

pub class_choice : (version : ℕ) (class : Class) → IsClassOf version class → list_any (bytes_eq (class_text class)) (class_words version) ≡ true
class_choice version Pinned h = refl
class_choice version Global h = refl
class_choice version Deferrable h = ap (λ (t : Bool). list_any (bytes_eq (codes "deferrable")) (cond t [] (codes "deferrable" ∷ []))) (ne_eqb version 1 h)

pub class_clear : (class : Class) → is_clear 32 (class_text class) ≡ true
class_clear Pinned = refl
class_clear Global = refl
class_clear Deferrable = refl
