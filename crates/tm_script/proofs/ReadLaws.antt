-- one line of a text that is read
use Rattle.std.proofs.Common.{◌≡◌, ℕ, ◌≤◌, Bool, false, cond, List, [], ◌∷◌, ◌++◌, Result, Ok, Err, refl, sym, ap, ◌∙◌}
use Rattle.text_words.specs.Words.{words_of}
use Rattle.text_words.proofs.Cuts.{words_joined}
use Rattle.tm_base.specs.declared.limits.TheConstants.{MOST_LINES}
use Rattle.tm_script.specs.declared.faults.Kind.{Kind}
use Rattle.tm_script.specs.declared.faults.Kind.TheVariants.{NoEnd}
use Rattle.tm_script.specs.declared.syntax.Script.{Script}
use Rattle.tm_script.specs.declared.known.Place.TheVariants.{Over}
use Rattle.tm_script.specs.declared.known.Known.{Known}
use Rattle.tm_script.specs.declared.known.Said.{Said}
use Rattle.tm_script.specs.declared.known.Said.TheVariants.{Version, NodeCount, CpuCount, TimerCount, IsolatedCpus, Opening, Operation, Ending}
use Rattle.tm_script.specs.declared.draft.Draft.{Draft}
use Rattle.tm_script.specs.Faults.{is_over, heard}
use Rattle.tm_script.specs.Reading.{draft_after, script_of, fault_in, finished, go_on, read_from}
use Rattle.tm_script.proofs.SaidLines.{IsSmall, Fits, said_line}
use Rattle.tm_script.proofs.LineFound.{heard_found}
use Rattle.tm_script.proofs.LineAgain.{heard_again}

-- a line that was read, and what is read behind it
pub record Step (parts : List (List ℕ)) (d : Draft) (s : Script) : Type 0 where
  pub line : List ℕ
  pub rest : List (List ℕ)
  pub said : Said
  pub cut : parts ≡ line ∷ rest
  pub spelled : line ≡ said_line d.known said
  pub room : d.known.line ≤ MOST_LINES
  pub fits : Fits d.known said
  pub later : read_from rest (draft_after d said) ≡ Ok s

pub step_found : (parts : List (List ℕ)) (d : Draft) (s : Script) → IsSmall d.known → is_over d.known.place ≡ false → read_from parts d ≡ Ok s → Step parts d s
unfolding read_from finished
step_found [] d s small going e = absurd cc
step_found ([] ∷ []) d s small going e = let none = ap (λ (t : Bool). cond t (Ok (script_of d)) (Err (fault_in d.known NoEnd))) (sym going) ∙ e in absurd cc
step_found ((b ∷ bs) ∷ []) d s small going e = absurd cc
step_found (l ∷ m ∷ ls) d s small going e = go (heard d.known (words_of l)) refl e
  where
    go : (r : Result Said Kind) → heard d.known (words_of l) ≡ r → go_on d r (read_from (m ∷ ls)) ≡ Ok s → Step (l ∷ m ∷ ls) d s
    go (Err kind) h e = absurd cc
    go (Ok said) h e =
        let f = heard_found d.known (words_of l) said small h in
        record { line = l; rest = m ∷ ls; said = said; cut = refl; spelled = sym (words_joined l) ∙ f.0; room = f.1; fits = f.2; later = e }

-- no line stands behind the end
not_over : (k : Known) (said : Said) → k.place ≡ Over → Fits k said → ⊥
not_over k (Version n) over h = let e = sym over ∙ h.0 in absurd cc
not_over k (NodeCount n) over h = let e = sym over ∙ h.0 in absurd cc
not_over k (CpuCount n) over h = let e = sym over ∙ h.0 in absurd cc
not_over k (TimerCount n) over h = let e = sym over ∙ h.0 in absurd cc
not_over k (IsolatedCpus cpus) over h = let e = sym over ∙ h.0 in absurd cc
not_over k (Opening at) over h = let e = sym over ∙ h.0 in absurd cc
not_over k (Operation cpu done) over h = let e = sym over ∙ h.0 in absurd cc
not_over k (Ending end) over h = let e = sym over ∙ h.0 in absurd cc

pub over_found : (parts : List (List ℕ)) (d : Draft) (s : Script) → IsSmall d.known → d.known.place ≡ Over → read_from parts d ≡ Ok s → (parts ≡ [] ∷ []) × (s ≡ script_of d)
unfolding read_from finished
over_found [] d s small over e = absurd cc
over_found ([] ∷ []) d s small over e =
    let done = ap (λ (t : Bool). cond t (Ok (script_of d)) (Err (fault_in d.known NoEnd))) (sym (ap is_over over)) ∙ e in
    (refl, cc)
over_found ((b ∷ bs) ∷ []) d s small over e = absurd cc
over_found (l ∷ m ∷ ls) d s small over e = go (heard d.known (words_of l)) refl e
  where
    go : (r : Result Said Kind) → heard d.known (words_of l) ≡ r → go_on d r (read_from (m ∷ ls)) ≡ Ok s → (l ∷ m ∷ ls ≡ [] ∷ []) × (s ≡ script_of d)
    go (Err kind) h e = absurd cc
    go (Ok said) h e = absurd (not_over d.known said over (heard_found d.known (words_of l) said small h).2)

-- a list that isn't empty
abbrev pub HasFirst : List (List ℕ) → Type 0
HasFirst ls = (first : List ℕ) × (rest : List (List ℕ)) × (ls ≡ first ∷ rest)

pub has_first : (xs ys : List (List ℕ)) → HasFirst ys → HasFirst (xs ++ ys)
has_first [] ys h = h
has_first (x ∷ xs) ys h = (x, xs ++ ys, refl)

-- a line of what may be said is read
pub step_again : (rest : List (List ℕ)) (d : Draft) (said : Said) → HasFirst rest → d.known.line ≤ MOST_LINES → Fits d.known said
    → read_from (said_line d.known said ∷ rest) d ≡ read_from rest (draft_after d said)
unfolding read_from
step_again rest d said more room fits =
    let line = said_line d.known said in
    ap (λ (ls : List (List ℕ)). read_from (line ∷ ls) d) more.2
    ∙ ap (λ (r : Result Said Kind). go_on d r (read_from (more.0 ∷ more.1))) (heard_again d.known room said fits)
    ∙ ap (λ (ls : List (List ℕ)). read_from ls (draft_after d said)) (sym more.2)
