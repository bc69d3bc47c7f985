-- for crates above: a pass that meets the part of its CPU
use Rattle.std.proofs.Common.{◌≡◌, List, [], ◌∷◌, Option, Some, sym, ap, subst, cond}
use Rattle.std.proofs.Common.{eq-eqb}
use Rattle.std.specs.Prelude.{option_map}
use Rattle.atomic_table.specs.Seated.{TableId}
use Rattle.cpu_bases.specs.declared.entry.Entry.{Entry}
use Rattle.shared_rule.specs.declared.parts.PassView.{PassView}
use Rattle.shared_rule.specs.Rule.{Each, renewed}
use Rattle.shared_rule.specs.Plays.{Agree}
use Rattle.shared_rule.specs.Parts.{HasGuest, HeldPart, pass_parted, with_guest}
use Rattle.shared_rule.specs.Passes.{HeldPass, IsPassIn, Seated, knowing, passes_of, seated_of}
use Rattle.shared_rule.specs.Passes.{with_pass}

module _ (part : HeldPart) (held : HeldPass) (table : TableId) (p : PassView)
    (is : IsPassIn table held p) where
  -- it is there
  pub is_there : p.cpu ≡ held.cpu → HasGuest held.cpu (with_guest part held)
  is_there own = (p, ap passes_of is, own)

  -- it goes off with the part's journal
  pub goes_off : p.cpu ≡ part.box.cpu → pass_parted table held.cpu (with_guest part held)
      ≡ with_pass (knowing part.box.own.bases.journal) held
  goes_off own =
      let seated : Option Seated → HeldPass = λ s. record held {
        seated = seated_of table (renewed (part.box ∷ []) (passes_of s));
      } in
      let wanted : Option Seated → HeldPass =
      λ s. with_pass (knowing part.box.own.bases.journal) (record held { seated = s }) in
      subst (λ s. seated s ≡ wanted s) (sym is)
      (ap (λ t. record held {
        seated = Some (record {
          table = table;
          pass = record p { journal = cond t part.box.own.bases.journal p.journal };
        });
      }) (eq-eqb p.cpu part.box.cpu own))

  -- where the two agree there, they agree
  pub agrees : Each (Agree part.box) (passes_of held.seated) → Agree part.box p
  agrees each = (subst (λ s. Each (Agree part.box) (passes_of s)) is each).0

  -- the pass with that journal
  pub knows : (journal : List Entry)
      → IsPassIn table (with_pass (knowing journal) held) (knowing journal p)
  knows journal = ap (option_map (λ (x : Seated). record x { pass = knowing journal x.pass })) is
