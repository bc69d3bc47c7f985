-- the first misfit of a trace is its verdict
use Rattle.std.proofs.Common.{◌≡◌, ℕ, List, [], ◌∷◌, ◌++◌, Option, Some, None, refl}
use Rattle.linux_rules.specs.declared.judge.Course.{Course}
use Rattle.linux_rules.specs.declared.judge.Misfit.{Misfit}
use Rattle.linux_rules.specs.declared.judge.Verdict.{Verdict}
use Rattle.linux_rules.specs.declared.judge.Verdict.TheVariants.{Fits, Broken, NoTrace}
use Rattle.linux_rules.specs.Judge.{judged, text_after, text_verdict, verdict_or}
use Rattle.linux_all.specs.All.{AllSaid, all_by, all_of, first_said, forgotten}

-- behind a misfit it stays the first
kept_by : (v : Option Verdict) (k after : Course) (m : Misfit) (ms : List Misfit)
    (rest : Course → List Misfit → AllSaid)
    → ((c : Course) (found : List Misfit) → first_said (rest c (m ∷ found)).misfits (rest c (m ∷ found)).end ≡ Broken m)
    → first_said (all_by v k (m ∷ ms) after rest).misfits (all_by v k (m ∷ ms) after rest).end
    ≡ Broken m
kept_by None k after m ms rest h = h after ms
kept_by (Some (Fits tally late)) k after m ms rest h = refl
kept_by (Some (Broken n)) k after m ms rest h = h (forgotten k.tally) (ms ++ n ∷ [])
kept_by (Some (NoTrace line fault)) k after m ms rest h = refl

kept : (k : Course) (m : Misfit) (ms : List Misfit) (texts : List (List ℕ))
    → first_said (all_of k (m ∷ ms) texts).misfits (all_of k (m ∷ ms) texts).end ≡ Broken m
kept k m ms [] = refl
kept k m ms (t ∷ ts) =
    kept_by (text_verdict k t) k (text_after k t) m ms (λ c found. all_of c found ts)
    (λ c found. kept c m found ts)

first_by : (v : Option Verdict) (k after : Course) (rest : Course → List Misfit → AllSaid)
    (later : Verdict)
    → ((c : Course) (m : Misfit) → first_said (rest c (m ∷ [])).misfits (rest c (m ∷ [])).end ≡ Broken m)
    → first_said (rest after []).misfits (rest after []).end ≡ later
    → first_said (all_by v k [] after rest).misfits (all_by v k [] after rest).end
    ≡ verdict_or v later
first_by None k after rest later broken h = h
first_by (Some (Fits tally late)) k after rest later broken h = refl
first_by (Some (Broken m)) k after rest later broken h = broken (forgotten k.tally) m
first_by (Some (NoTrace line fault)) k after rest later broken h = refl

-- the first of all that is said is what is said of the trace
pub first_law : (k : Course) (texts : List (List ℕ))
    → first_said (all_of k [] texts).misfits (all_of k [] texts).end ≡ judged k texts
first_law k [] = refl
first_law k (t ∷ ts) =
    first_by (text_verdict k t) k (text_after k t) (λ c found. all_of c found ts)
    (judged (text_after k t) ts) (λ c m. kept c m [] ts) (first_law (text_after k t) ts)
