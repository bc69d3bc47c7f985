-- views that are joined one by one
use Rattle.std.proofs.Common.{◌≡◌, List, [], ◌∷◌, ◌++◌, sym, ap, ◌∙◌, subst}
use Rattle.std.proofs.lemmas.List.{append-nil, append_assoc}
use Rattle.core_world.specs.World.{CpuRecord}
use Rattle.shared_rule.specs.declared.parts.BoxView.{BoxView}
use Rattle.shared_rule.specs.declared.parts.PassView.{PassView}
use Rattle.shared_rule.specs.declared.parts.View.{View}
use Rattle.shared_rule.specs.Rule.{Each, Me, seen, together}
use Rattle.shared_rule.specs.Parts.{HeldPart}
use Rattle.shared_rule.specs.Passes.{HeldPass, passes_of}
use Rattle.shared_table.specs.Joined.{boxes_of, own_in, owns_of, parts_of, with_boxes, with_passes}

-- nothing is joined
pub with_none : (m : Me) → (together m.0 (seen [] []), m.1) ≡ m
with_none m = λ i. (seen (append-nil m.0.boxes i) (append-nil m.0.passes i), m.1)

-- passes, and then others
then_passes : (v : View) (ps qs : List PassView)
    → together (together v (seen [] ps)) (seen [] qs) ≡ together v (seen [] (ps ++ qs))
then_passes v ps qs = λ i. seen (append-nil (v.boxes ++ []) i)
    (append_assoc v.passes ps qs i)

-- boxes, and then others
then_boxes : (v : View) (bs cs : List BoxView)
    → together (together v (seen bs [])) (seen cs []) ≡ together v (seen (bs ++ cs) [])
then_boxes v bs cs = λ i. seen (append_assoc v.boxes bs cs i)
    (append-nil (v.passes ++ []) i)

-- a pass that is joined stands before those that are left
pub one_pass : (m k first : Me) (rest : List HeldPass) (p : HeldPass) (later all : List HeldPass)
    → rest ≡ p ∷ later → k ≡ (together m.0 (seen [] (passes_of p.seated)), m.1)
    → with_passes m rest ≡ with_passes first all → with_passes k later ≡ with_passes first all
one_pass m k first rest p later all is next so_far =
    ap (λ (z : Me). with_passes z later) next
    ∙ ((λ i. (then_passes m.0 (passes_of p.seated) (parts_of later) i, m.1))
    ∙ (ap (with_passes m) (sym is) ∙ so_far))

-- and so does a box
pub one_box : (m k first : Me) (rest : List HeldPart) (p : HeldPart) (later all : List HeldPart)
    → rest ≡ p ∷ later → k ≡ (together m.0 (seen (p.box ∷ []) []), m.1)
    → with_boxes m rest ≡ with_boxes first all → with_boxes k later ≡ with_boxes first all
one_box m k first rest p later all is next so_far =
    ap (λ (z : Me). with_boxes z later) next
    ∙ ((λ i. (then_boxes m.0 (p.box ∷ []) (boxes_of later) i, m.1))
    ∙ (ap (with_boxes m) (sym is) ∙ so_far))

-- and its CPU
pub one_own : (cpus more : List CpuRecord) (own : CpuRecord) (rest : List HeldPart) (p : HeldPart)
    (later : List HeldPart) (all : List CpuRecord) → rest ≡ p ∷ later → own ≡ own_in p
    → more ≡ cpus ++ own ∷ [] → cpus ++ owns_of rest ≡ all → more ++ owns_of later ≡ all
one_own cpus more own rest p later all is mine pushed so_far =
    ap (λ l. l ++ owns_of later) (pushed ∙ ap (λ x. cpus ++ x ∷ []) mine)
    ∙ (append_assoc cpus (own_in p ∷ []) (owns_of later)
    ∙ (ap (λ r. cpus ++ owns_of r) (sym is) ∙ so_far))

-- a fact of each of a list, and of its first
pub each_first : {X : Type 0} (P : X → Type 0) (xs : List X) (x : X) (ys : List X) → xs ≡ x ∷ ys
    → Each P xs → P x
each_first {X} P xs x ys is h = let k : Each P (x ∷ ys) = subst (Each P) is h in k.0

-- and of the others
pub each_later : {X : Type 0} (P : X → Type 0) (xs : List X) (x : X) (ys : List X) → xs ≡ x ∷ ys
    → Each P xs → Each P ys
each_later {X} P xs x ys is h = let k : Each P (x ∷ ys) = subst (Each P) is h in k.1

-- both together make it one of each
pub each_both : {X : Type 0} (P : X → Type 0) (xs : List X) (x : X) (ys : List X) → xs ≡ x ∷ ys
    → P x → Each P ys → Each P xs
each_both {X} P xs x ys is one others =
    let k : Each P (x ∷ ys) = (one, others) in subst (Each P) (sym is) k
