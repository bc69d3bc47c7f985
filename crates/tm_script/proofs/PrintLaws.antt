-- texts that are written piece by piece
use Rattle.std.proofs.Common.{◌≡◌, ℕ, zero, suc, ◌+◌, Bool, true, false, cond, List, [], ◌∷◌, ◌++◌, map, refl, sym, ap, ◌∙◌, append_assoc, arith}
use Rattle.std.specs.Prelude.{codes, filter}
use Rattle.std.specs.Fmt.{decimal}
use Rattle.std.specs.List.{flat_map, range_with_len}
use Rattle.std.specs.FinSet.{contains}
use Rattle.std.proofs.lemmas.Grind.{flat_map-append}
use Rattle.std.proofs.lemmas.List.{append-nil}
use Rattle.text_words.specs.Words.{spaced, ended}
use Rattle.tm_base.specs.CpuSet.{Cpus}
use Rattle.tm_script.specs.declared.syntax.Script.{Script}
use Rattle.tm_script.specs.declared.syntax.Moment.{Moment}
use Rattle.tm_script.specs.Texts.{members, moment_lines, number_line, isolated_line, head_lines, script_text}

pub printed_moment : (m : Moment) (ms : List Moment) → flat_map ended (flat_map moment_lines (m ∷ ms)) ≡ flat_map ended (moment_lines m) ++ flat_map ended (flat_map moment_lines ms)
printed_moment m ms = flat_map-append ended (moment_lines m) (flat_map moment_lines ms)

-- the whole text
pub printed_script : (s : Script) → script_text s ≡ flat_map ended (head_lines s) ++ (flat_map ended (flat_map moment_lines s.moments) ++ ended (number_line (codes "end") s.end))
printed_script s =
    flat_map-append ended (head_lines s) (flat_map moment_lines s.moments ++ number_line (codes "end") s.end ∷ [])
    ∙ ap (λ (t : List ℕ). flat_map ended (head_lines s) ++ t)
    (flat_map-append ended (flat_map moment_lines s.moments) (number_line (codes "end") s.end ∷ [])
    ∙ ap (λ (t : List ℕ). flat_map ended (flat_map moment_lines s.moments) ++ t) (append-nil (ended (number_line (codes "end") s.end))))

-- ---- the isolated CPUs

abbrev pub behind_space : ℕ → List ℕ
behind_space n = 32 ∷ decimal n

filter_more : (p : ℕ → Bool) (a n b : ℕ) → a + n ≡ b → filter p (range_with_len a (n + 1)) ≡ filter p (range_with_len a n) ++ cond (p b) (b ∷ []) []
filter_more p a zero b e = let same : a ≡ b = sym (omega arith) ∙ e in λ i. cond (p (same i)) (same i ∷ []) []
filter_more p a (suc n) b e =
    let more : suc n + 1 ≡ suc (n + 1) = omega arith in
    let rest = filter_more p (a + 1) n b (omega arith) in
    ap (λ (k : ℕ). filter p (range_with_len a k)) more
    ∙ by_test (p a) (filter p (range_with_len (a + 1) (n + 1))) (filter p (range_with_len (a + 1) n)) (cond (p b) (b ∷ []) []) rest
  where
    by_test : (t : Bool) (xs ys zs : List ℕ) → xs ≡ ys ++ zs → cond t (a ∷ xs) xs ≡ cond t (a ∷ ys) ys ++ zs
    by_test true xs ys zs e = ap (λ (r : List ℕ). a ∷ r) e
    by_test false xs ys zs e = e

printed_last : (t : Bool) (n : ℕ) → flat_map behind_space (cond t (n ∷ []) []) ≡ cond t (32 ∷ decimal n) []
printed_last true n = append-nil (32 ∷ decimal n)
printed_last false n = refl

pub printed_more : (n : ℕ) (cpus : Cpus) (t : Bool) → contains cpus n ≡ t → flat_map behind_space (members (n + 1) cpus) ≡ flat_map behind_space (members n cpus) ++ cond t (32 ∷ decimal n) []
unfolding members
printed_more n cpus t e =
    ap (flat_map behind_space) (filter_more (contains cpus) 0 n n (omega arith))
    ∙ flat_map-append behind_space (filter (contains cpus) (range_with_len 0 n)) (cond (contains cpus n) (n ∷ []) [])
    ∙ ap (λ (r : List ℕ). flat_map behind_space (filter (contains cpus) (range_with_len 0 n)) ++ r) (printed_last (contains cpus n) n ∙ ap (λ (b : Bool). cond b (32 ∷ decimal n) []) e)

spaced_numbers : (word : List ℕ) (ns : List ℕ) → word ++ flat_map behind_space ns ≡ spaced (word ∷ map decimal ns)
spaced_numbers word [] = append-nil word
spaced_numbers word (n ∷ ns) = ap (λ (r : List ℕ). word ++ 32 ∷ r) (spaced_numbers (decimal n) ns)

pub printed_isolated : (n : ℕ) (cpus : Cpus) → codes "isolated" ++ flat_map behind_space (members n cpus) ≡ isolated_line n cpus
printed_isolated n cpus = spaced_numbers (codes "isolated") (members n cpus)

pub printed_none : (cpus : Cpus) → flat_map behind_space (members 0 cpus) ≡ []
unfolding members
printed_none cpus = refl

pub ruleset printing = (printed_moment, printed_script, append_assoc)

-- one CPU more was looked at
pub isolated_more : (old before after : List ℕ) (n : ℕ) (cpus : Cpus) (t : Bool) → contains cpus n ≡ t → before ≡ old ++ (codes "isolated" ++ flat_map behind_space (members n cpus)) → after ≡ before ++ cond t (32 ∷ decimal n) []
    → after ≡ old ++ (codes "isolated" ++ flat_map behind_space (members (n + 1) cpus))
isolated_more old before after n cpus t e was is =
    let new = cond t (32 ∷ decimal n) [] in
    let so_far = flat_map behind_space (members n cpus) in
    is ∙ ap (λ (r : List ℕ). r ++ new) was ∙ append_assoc old (codes "isolated" ++ so_far) new
    ∙ ap (λ (r : List ℕ). old ++ r) (append_assoc (codes "isolated") so_far new ∙ ap (λ (r : List ℕ). codes "isolated" ++ r) (sym (printed_more n cpus t e)))

pub isolated_done : (old before after : List ℕ) (n count : ℕ) (cpus : Cpus) → n ≡ count → before ≡ old ++ (codes "isolated" ++ flat_map behind_space (members n cpus)) → after ≡ before ++ 10 ∷ []
    → after ≡ old ++ ended (isolated_line count cpus)
isolated_done old before after n count cpus e was is =
    is ∙ ap (λ (r : List ℕ). r ++ 10 ∷ []) (was ∙ ap (λ (r : List ℕ). old ++ r) (ap (λ (k : ℕ). codes "isolated" ++ flat_map behind_space (members k cpus)) e ∙ printed_isolated count cpus))
    ∙ append_assoc old (isolated_line count cpus) (10 ∷ [])
