-- the lines before the moments, and the whole text
use Rattle.std.proofs.Common.{◌≡◌, ℕ, ◌+◌, ◌*◌, ◌^◌, ◌<◌, ◌≤◌, Bool, true, false, cond, eqb, List, [], ◌∷◌, ◌++◌, length, None, Ok, refl, sym, ap, subst, ◌∙◌, arith}
use Rattle.std.specs.Prelude.{codes}
use Rattle.std.specs.FinSet.{empty, contains, contains-empty}
use Rattle.std.specs.Ordering.{nat_cmp}
use Rattle.std.proofs.Math.Nat.{mul-pos}
use Rattle.std.proofs.lemmas.Bool.{eqb-true, eqb-false, false≢true}
use Rattle.tm_base.specs.CpuSet.{Cpus as CpuNumbers, Contains}
use Rattle.tm_base.specs.declared.limits.TheConstants.{MOST_NODES, MOST_NODE_CPUS, MOST_CPUS_V1, MOST_CPUS_V2, MOST_TIMERS}
use Rattle.tm_script.specs.declared.syntax.Script.{Script}
use Rattle.tm_script.specs.declared.known.Place.{Place}
use Rattle.tm_script.specs.declared.known.Place.TheVariants.{IsolatedLine, Body}
use Rattle.tm_script.specs.declared.known.Said.{Said}
use Rattle.tm_script.specs.declared.known.Said.TheVariants.{Version, NodeCount, CpuCount, TimerCount, IsolatedCpus, Opening, Operation, Ending}
use Rattle.tm_script.specs.declared.draft.Draft.{Draft}
use Rattle.tm_script.specs.Texts.{cpu_count, number_line, isolated_line, head_lines}
use Rattle.tm_script.specs.Grammar.{most_cpus}
use Rattle.tm_script.specs.Reading.{start, draft_after, read_from}
use Rattle.tm_script.proofs.SaidLines.{Fits, said_line}
use Rattle.tm_script.proofs.ReadLaws.{step_found, HasFirst, has_first, step_again}
use Rattle.tm_script.proofs.BodyLaws.{body_draft}

-- the machine of a script
pub record IsHead (h : Script) : Type 0 where
  pub some_version : 1 ≤ h.version
  pub few_versions : h.version ≤ 2
  pub some_nodes : 1 ≤ h.nodes
  pub few_nodes : h.nodes ≤ MOST_NODES
  pub some_cpus : 1 ≤ h.cpus
  pub few_node_cpus : h.cpus ≤ MOST_NODE_CPUS
  pub few_cpus : cpu_count h ≤ most_cpus h.version
  pub some_timers : 1 ≤ h.timers
  pub few_timers : h.timers ≤ MOST_TIMERS
  pub none_isolated : h.version ≡ 1 → h.isolated ≡ empty
  pub isolated_in_range : (c : ℕ) → Contains h.isolated c → c < cpu_count h
  pub some_placed : (c : ℕ) × (c < cpu_count h) × (contains h.isolated c ≡ false)

-- the draft behind the lines before the moments
abbrev pub first_draft : Script → Draft
first_draft h = body_draft h (length (head_lines h) + 1) [] None 0 [] false

pub record HeadFound (parts : List (List ℕ)) (s : Script) : Type 0 where
  pub h : Script
  pub is : IsHead h
  pub rest : List (List ℕ)
  pub cut : parts ≡ head_lines h ++ rest
  pub later : read_from rest (first_draft h) ≡ Ok s

most_few : (t : Bool) → cond t MOST_CPUS_V1 MOST_CPUS_V2 ≤ MOST_CPUS_V2
most_few true = omega arith
most_few false = omega arith

pub few_of_most : (version count : ℕ) → count ≤ most_cpus version → count ≤ MOST_CPUS_V2
few_of_most version count h = omega (arith, most_few (eqb version 1))

pub some_product : (m n : ℕ) → 1 ≤ m → 1 ≤ n → 1 ≤ m * n
some_product m n a b = let m0 : 0 < m = omega arith in let n0 : 0 < n = omega arith in let p : 0 < m * n = mul-pos m0 n0 in omega arith

abbrev head : ℕ → ℕ → ℕ → ℕ → CpuNumbers → Script
head v n c t cpus = record { version = v; nodes = n; cpus = c; timers = t; isolated = cpus; moments = []; end = 0 }

abbrev first_lines : ℕ → ℕ → ℕ → ℕ → List (List ℕ) → List (List ℕ)
first_lines v n c t rest =
    number_line (codes "tmig") v ∷ number_line (codes "nodes") n ∷ number_line (codes "cpus") c ∷ number_line (codes "timers") t ∷ rest

abbrev draft1 : ℕ → Draft
draft1 v = draft_after start (Version v)

abbrev draft2 : ℕ → ℕ → Draft
draft2 v n = draft_after (draft1 v) (NodeCount n)

abbrev draft3 : ℕ → ℕ → ℕ → Draft
draft3 v n c = draft_after (draft2 v n) (CpuCount c)

abbrev draft4 : ℕ → ℕ → ℕ → ℕ → Place → Draft
draft4 v n c t place = record {
  known = record { line = 5; place = place; version = v; nodes = n; cpus = c; timers = t; last = None; ops = 0; closed = false };
  isolated = empty;
  moments = [];
  ops = [];
  end = 0;
}

-- what the lines so far say of the machine
record IsMachine (v n c t : ℕ) : Type 0 where
  some_version : 1 ≤ v
  few_versions : v ≤ 2
  some_nodes : 1 ≤ n
  few_nodes : n ≤ MOST_NODES
  some_cpus : 1 ≤ c
  few_node_cpus : c ≤ MOST_NODE_CPUS
  few_cpus : n * c ≤ most_cpus v
  some_timers : 1 ≤ t
  few_timers : t ≤ MOST_TIMERS

machine_small : (v n c t : ℕ) → IsMachine v n c t → (n * c < 10 ^ 13) × (t < 10 ^ 13)
machine_small v n c t m = (omega (arith, few_of_most v (n * c) m.few_cpus), omega (arith, m.few_timers))

-- ---- found

module _ (s : Script) where
  head_of : (v n c t : ℕ) (cpus : CpuNumbers) → IsMachine v n c t → (v ≡ 1 → cpus ≡ empty) → ((k : ℕ) → Contains cpus k → k < n * c) → ((k : ℕ) × (k < n * c) × (contains cpus k ≡ false)) → IsHead (head v n c t cpus)
  head_of v n c t cpus m none inside placed = record {
    some_version = m.some_version;
    few_versions = m.few_versions;
    some_nodes = m.some_nodes;
    few_nodes = m.few_nodes;
    some_cpus = m.some_cpus;
    few_node_cpus = m.few_node_cpus;
    few_cpus = m.few_cpus;
    some_timers = m.some_timers;
    few_timers = m.few_timers;
    none_isolated = none;
    isolated_in_range = inside;
    some_placed = placed;
  }

  head5 : (v n c t : ℕ) (rest : List (List ℕ)) → IsMachine v n c t → eqb v 1 ≡ false → read_from rest (draft4 v n c t IsolatedLine) ≡ Ok s → HeadFound (first_lines v n c t rest) s
  head5 v n c t rest m two e =
      let few = machine_small v n c t m in
      let st = step_found rest (draft4 v n c t IsolatedLine) s (record { few_cpus = few.0; few_timers = few.1 }) refl e in
      subst (λ (ps : List (List ℕ)). HeadFound (first_lines v n c t ps) s) (sym (st.cut ∙ ap (λ (l : List ℕ). l ∷ st.rest) st.spelled)) (go st.said st.rest st.fits st.later)
    where
      go : (said : Said) (later : List (List ℕ)) → Fits (draft4 v n c t IsolatedLine).known said → read_from later (draft_after (draft4 v n c t IsolatedLine) said) ≡ Ok s → HeadFound (first_lines v n c t (said_line (draft4 v n c t IsolatedLine).known said ∷ later)) s
      go (IsolatedCpus cpus) later fits e =
          let h = head v n c t cpus in
          let line : length (head_lines h) + 1 ≡ 6 = ap (λ (b : Bool). length (first_lines v n c t (cond b [] (isolated_line (n * c) cpus ∷ []))) + 1) two in
          record {
            h = h;
            is = head_of v n c t cpus m (λ one. absurd (eqb-false v 1 two one)) fits.1 fits.2;
            rest = later;
            cut = λ i. first_lines v n c t (cond (sym two i) [] (isolated_line (n * c) cpus ∷ []) ++ later);
            later = subst (λ (k : ℕ). read_from later (body_draft h k [] None 0 [] false) ≡ Ok s) (sym line) e;
          }
      go (Version n) later fits e = let z = fits.0 in absurd cc
      go (NodeCount n) later fits e = let z = fits.0 in absurd cc
      go (CpuCount n) later fits e = let z = fits.0 in absurd cc
      go (TimerCount n) later fits e = let z = fits.0 in absurd cc
      go (Opening at) later fits e = let z = fits.0 in absurd cc
      go (Operation cpu done) later fits e = let z = fits.0 in absurd cc
      go (Ending end) later fits e = let z = fits.0 in absurd cc

  no_cpus : (k : ℕ) (count : ℕ) → Contains (empty {R = nat_cmp}) k → k < count
  no_cpus k count here = absurd (false≢true (sym (contains-empty nat_cmp k) ∙ here))

  head_end : (v n c t : ℕ) (rest : List (List ℕ)) → IsMachine v n c t → (one : Bool) → eqb v 1 ≡ one → read_from rest (draft4 v n c t (cond one Body IsolatedLine)) ≡ Ok s → HeadFound (first_lines v n c t rest) s
  head_end v n c t rest m false is e = head5 v n c t rest m is e
  head_end v n c t rest m true is e =
      let h = head v n c t empty in
      let line : length (head_lines h) + 1 ≡ 5 = ap (λ (b : Bool). length (first_lines v n c t (cond b [] (isolated_line (n * c) empty ∷ []))) + 1) is in
      record {
        h = h;
        is = head_of v n c t empty m (λ _. refl) (λ k here. no_cpus k (n * c) here) (0, some_product n c m.some_nodes m.some_cpus, contains-empty nat_cmp 0);
        rest = rest;
        cut = λ i. first_lines v n c t (cond (sym is i) [] (isolated_line (n * c) empty ∷ []) ++ rest);
        later = subst (λ (k : ℕ). read_from rest (body_draft h k [] None 0 [] false) ≡ Ok s) (sym line) e;
      }

  head4 : (v n c : ℕ) (rest : List (List ℕ)) → 1 ≤ v → v ≤ 2 → 1 ≤ n → n ≤ MOST_NODES → 1 ≤ c → c ≤ MOST_NODE_CPUS → n * c ≤ most_cpus v → read_from rest (draft3 v n c) ≡ Ok s
      → HeadFound (number_line (codes "tmig") v ∷ number_line (codes "nodes") n ∷ number_line (codes "cpus") c ∷ rest) s
  head4 v n c rest v1 v2 n1 n2 c1 c2 few e =
      let st = step_found rest (draft3 v n c) s (record { few_cpus = omega (arith, few_of_most v (n * c) few); few_timers = omega arith }) refl e in
      subst (λ (ps : List (List ℕ)). HeadFound (number_line (codes "tmig") v ∷ number_line (codes "nodes") n ∷ number_line (codes "cpus") c ∷ ps) s)
      (sym (st.cut ∙ ap (λ (l : List ℕ). l ∷ st.rest) st.spelled)) (go st.said st.rest st.fits st.later)
    where
      go : (said : Said) (later : List (List ℕ)) → Fits (draft3 v n c).known said → read_from later (draft_after (draft3 v n c) said) ≡ Ok s
          → HeadFound (number_line (codes "tmig") v ∷ number_line (codes "nodes") n ∷ number_line (codes "cpus") c ∷ said_line (draft3 v n c).known said ∷ later) s
      go (TimerCount t) later fits e =
          head_end v n c t later (record { some_version = v1; few_versions = v2; some_nodes = n1; few_nodes = n2; some_cpus = c1; few_node_cpus = c2; few_cpus = few; some_timers = fits.1; few_timers = fits.2 }) (eqb v 1) refl e
      go (Version n) later fits e = let z = fits.0 in absurd cc
      go (NodeCount n) later fits e = let z = fits.0 in absurd cc
      go (CpuCount n) later fits e = let z = fits.0 in absurd cc
      go (IsolatedCpus cpus) later fits e = let z = fits.0 in absurd cc
      go (Opening at) later fits e = let z = fits.0 in absurd cc
      go (Operation cpu done) later fits e = let z = fits.0 in absurd cc
      go (Ending end) later fits e = let z = fits.0 in absurd cc

  head3 : (v n : ℕ) (rest : List (List ℕ)) → 1 ≤ v → v ≤ 2 → 1 ≤ n → n ≤ MOST_NODES → read_from rest (draft2 v n) ≡ Ok s
      → HeadFound (number_line (codes "tmig") v ∷ number_line (codes "nodes") n ∷ rest) s
  head3 v n rest v1 v2 n1 n2 e =
      let st = step_found rest (draft2 v n) s (record { few_cpus = omega arith; few_timers = omega arith }) refl e in
      subst (λ (ps : List (List ℕ)). HeadFound (number_line (codes "tmig") v ∷ number_line (codes "nodes") n ∷ ps) s)
      (sym (st.cut ∙ ap (λ (l : List ℕ). l ∷ st.rest) st.spelled)) (go st.said st.rest st.fits st.later)
    where
      go : (said : Said) (later : List (List ℕ)) → Fits (draft2 v n).known said → read_from later (draft_after (draft2 v n) said) ≡ Ok s
          → HeadFound (number_line (codes "tmig") v ∷ number_line (codes "nodes") n ∷ said_line (draft2 v n).known said ∷ later) s
      go (CpuCount c) later fits e = head4 v n c later v1 v2 n1 n2 fits.1 fits.2 fits.3 e
      go (Version n) later fits e = let z = fits.0 in absurd cc
      go (NodeCount n) later fits e = let z = fits.0 in absurd cc
      go (TimerCount n) later fits e = let z = fits.0 in absurd cc
      go (IsolatedCpus cpus) later fits e = let z = fits.0 in absurd cc
      go (Opening at) later fits e = let z = fits.0 in absurd cc
      go (Operation cpu done) later fits e = let z = fits.0 in absurd cc
      go (Ending end) later fits e = let z = fits.0 in absurd cc

  head2 : (v : ℕ) (rest : List (List ℕ)) → 1 ≤ v → v ≤ 2 → read_from rest (draft1 v) ≡ Ok s → HeadFound (number_line (codes "tmig") v ∷ rest) s
  head2 v rest v1 v2 e =
      let st = step_found rest (draft1 v) s (record { few_cpus = omega arith; few_timers = omega arith }) refl e in
      subst (λ (ps : List (List ℕ)). HeadFound (number_line (codes "tmig") v ∷ ps) s)
      (sym (st.cut ∙ ap (λ (l : List ℕ). l ∷ st.rest) st.spelled)) (go st.said st.rest st.fits st.later)
    where
      go : (said : Said) (later : List (List ℕ)) → Fits (draft1 v).known said → read_from later (draft_after (draft1 v) said) ≡ Ok s
          → HeadFound (number_line (codes "tmig") v ∷ said_line (draft1 v).known said ∷ later) s
      go (NodeCount n) later fits e = head3 v n later v1 v2 fits.1 fits.2 e
      go (Version n) later fits e = let z = fits.0 in absurd cc
      go (CpuCount n) later fits e = let z = fits.0 in absurd cc
      go (TimerCount n) later fits e = let z = fits.0 in absurd cc
      go (IsolatedCpus cpus) later fits e = let z = fits.0 in absurd cc
      go (Opening at) later fits e = let z = fits.0 in absurd cc
      go (Operation cpu done) later fits e = let z = fits.0 in absurd cc
      go (Ending end) later fits e = let z = fits.0 in absurd cc

  pub head_found : (parts : List (List ℕ)) → read_from parts start ≡ Ok s → HeadFound parts s
  head_found parts e =
      let st = step_found parts start s (record { few_cpus = omega arith; few_timers = omega arith }) refl e in
      subst (λ (ps : List (List ℕ)). HeadFound ps s) (sym (st.cut ∙ ap (λ (l : List ℕ). l ∷ st.rest) st.spelled)) (go st.said st.rest st.fits st.later)
    where
      go : (said : Said) (later : List (List ℕ)) → Fits start.known said → read_from later (draft_after start said) ≡ Ok s → HeadFound (said_line start.known said ∷ later) s
      go (Version v) later fits e = head2 v later fits.1 fits.2 e
      go (NodeCount n) later fits e = let z = fits.0 in absurd cc
      go (CpuCount n) later fits e = let z = fits.0 in absurd cc
      go (TimerCount n) later fits e = let z = fits.0 in absurd cc
      go (IsolatedCpus cpus) later fits e = let z = fits.0 in absurd cc
      go (Opening at) later fits e = let z = fits.0 in absurd cc
      go (Operation cpu done) later fits e = let z = fits.0 in absurd cc
      go (Ending end) later fits e = let z = fits.0 in absurd cc

-- ---- again

module _ (s : Script) (h : IsHead s) (rest : List (List ℕ)) (more : HasFirst rest) where
  tail_again : (one : Bool) → eqb s.version 1 ≡ one
      → read_from (cond one [] (isolated_line (cpu_count s) s.isolated ∷ []) ++ rest) (draft4 s.version s.nodes s.cpus s.timers (cond one Body IsolatedLine))
      ≡ read_from rest (body_draft s (length (first_lines s.version s.nodes s.cpus s.timers (cond one [] (isolated_line (cpu_count s) s.isolated ∷ []))) + 1) [] None 0 [] false)
  tail_again true is =
      let none = h.none_isolated (eqb-true s.version 1 is) in
      λ i. read_from rest (record (draft4 s.version s.nodes s.cpus s.timers Body) { isolated = sym none i })
  tail_again false is =
      step_again rest (draft4 s.version s.nodes s.cpus s.timers IsolatedLine) (IsolatedCpus s.isolated) more (omega arith) (refl, h.isolated_in_range, h.some_placed, omega (arith, few_of_most s.version (cpu_count s) h.few_cpus))

  pub head_again : read_from (head_lines s ++ rest) start ≡ read_from rest (first_draft s)
  head_again =
      let tail = cond (eqb s.version 1) [] (isolated_line (cpu_count s) s.isolated ∷ []) ++ rest in
      let some : HasFirst tail = has_first (cond (eqb s.version 1) [] (isolated_line (cpu_count s) s.isolated ∷ [])) rest more in
      let timers = number_line (codes "timers") s.timers in
      let cpus = number_line (codes "cpus") s.cpus in
      let nodes = number_line (codes "nodes") s.nodes in
      step_again (nodes ∷ cpus ∷ timers ∷ tail) start (Version s.version) (nodes, cpus ∷ timers ∷ tail, refl) (omega arith) (refl, h.some_version, h.few_versions)
      ∙ step_again (cpus ∷ timers ∷ tail) (draft1 s.version) (NodeCount s.nodes) (cpus, timers ∷ tail, refl) (omega arith) (refl, h.some_nodes, h.few_nodes)
      ∙ step_again (timers ∷ tail) (draft2 s.version s.nodes) (CpuCount s.cpus) (timers, tail, refl) (omega arith) (refl, h.some_cpus, h.few_node_cpus, h.few_cpus)
      ∙ step_again tail (draft3 s.version s.nodes s.cpus) (TimerCount s.timers) some (omega arith) (refl, h.some_timers, h.few_timers)
      ∙ tail_again (eqb s.version 1) refl
