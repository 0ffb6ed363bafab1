-- All revisions: they are made exactly where the rules hold of each.
use Rattle.std.proofs.Common.{◌≡◌, ℕ, zero, suc, ◌+◌, ◌<◌, Bool, true, false, List, [], ◌∷◌, length, Some, Ok, sym, refl, ap, ◌∙◌, subst, arith}
use Rattle.format.specs.Bytes.{Bytes}
use Rattle.format.specs.Chain.{Link}
use Rattle.format.specs.Revisions.{State, Revision, nth, revisions}
use Rattle.chains.proofs.Histories.{revisions_cut, revisions_put}
use Rattle.chains.proofs.Steps.{answered}
use Rattle.tables.proofs.Finds.{nth_below, nth_within}
use Rattle.rules.specs.Tables.{Stands, RevisionHolds, Shows}
use Rattle.rules.proofs.Lists.{no_place, same_place, same_lists}
use Rattle.rules.proofs.Newest.{Neat}
use Rattle.rules.proofs.Revised.{Oldest, revision_passed, passed_revision, made_holds, holds_made, made_table, made_shows, shows_once}
use Rattle.rules.proofs.Tables.{Table, no_table}

-- the links ls are those from place k on
abbrev pub From : List Link → ℕ → List Link → Type 0
From links k ls = (i : ℕ) → nth i ls ≡ nth (k + i) links

pub from_first : (links : List Link) (k : ℕ) (l : Link) (ls : List Link) → From links k (l ∷ ls) → Stands links k l
unfolding nth
from_first links k l ls f = let e : k ≡ k + 0 = omega arith in ap (λ (x : ℕ). nth x links) e ∙ sym (f 0)

pub from_rest : (links : List Link) (k : ℕ) (l : Link) (ls : List Link) → From links k (l ∷ ls) → From links (suc k) ls
unfolding nth
from_rest links k l ls f i = let e : k + suc i ≡ suc k + i = omega arith in f (suc i) ∙ ap (λ (x : ℕ). nth x links) e

-- what is so of the revisions rs made of the links from place k on
pub record Made (file : Bytes) (links : List Link) (k : ℕ) (ls : List Link) (rs : List Revision) : Type 0 where
  pub count : length rs ≡ length ls
  pub holds : (i : ℕ) (l : Link) → nth i ls ≡ Some l → RevisionHolds file links (k + i) l
  pub shows : (i : ℕ) (l : Link) (r : Revision) → nth i ls ≡ Some l → nth i rs ≡ Some r → Shows file links (k + i) l r

made_more : (file : Bytes) (links : List Link) (k : ℕ) (l : Link) (ls : List Link) (r : Revision) (rs : List Revision) → RevisionHolds file links k l → Shows file links k l r →
    Made file links (suc k) ls rs → Made file links k (l ∷ ls) (r ∷ rs)
unfolding nth
made_more file links k l ls r rs h s m = record { count = ap suc m.count; holds = held; shows = shown }
  where
    held : (i : ℕ) (x : Link) → nth i (l ∷ ls) ≡ Some x → RevisionHolds file links (k + i) x
    held zero x e =
        let q : k ≡ k + 0 = omega arith in
        let w : l ≡ x = same_place e in
        subst (λ (j : ℕ). RevisionHolds file links j x) q (subst (λ (y : Link). RevisionHolds file links k y) w h)
    held (suc i) x e = let q : suc k + i ≡ k + suc i = omega arith in subst (λ (j : ℕ). RevisionHolds file links j x) q (m.holds i x e)

    shown : (i : ℕ) (x : Link) (y : Revision) → nth i (l ∷ ls) ≡ Some x → nth i (r ∷ rs) ≡ Some y → Shows file links (k + i) x y
    shown zero x y e f =
        let q : k ≡ k + 0 = omega arith in
        let w : l ≡ x = same_place e in
        let v : r ≡ y = same_place f in
        subst (λ (j : ℕ). Shows file links j x y) q (subst (λ (z : Revision). Shows file links k x z) v (subst (λ (z : Link). Shows file links k z r) w s))
    shown (suc i) x y e f = let q : suc k + i ≡ k + suc i = omega arith in subst (λ (j : ℕ). Shows file links j x y) q (m.shows i x y e f)

module _ (file : Bytes) (links : List Link) (neat : Neat links) where
  -- of the revisions that are made the rules hold
  pub revisions_made : (k : ℕ) (b : Bool) (old : List State) (ls : List Link) (rs : List Revision) → Oldest k b → Table file links k old → From links k ls → revisions file b old ls ≡ Ok rs → Made file links k ls rs
  unfolding revisions
  revisions_made k b old [] rs o t f h =
      subst (λ (x : List Revision). Made file links k [] x) (answered h)
      (record { count = refl; holds = λ i l e. no_place i e; shows = λ i l r e g. no_place i e })
  revisions_made k b old (l ∷ ls) rs o t f h =
      let c = revisions_cut file b old l ls rs h in
      let p = revision_passed file b old l c.first c.made in
      let s = from_first links k l ls f in
      subst (λ (x : List Revision). Made file links k (l ∷ ls) x) (sym c.is)
      (made_more file links k l ls c.first c.others (made_holds file links neat k old t l s b c.first o p) (made_shows file links neat k old t l s b c.first p)
      (revisions_made (suc k) false c.first.states ls c.others refl (made_table file links neat k old t l s b c.first p) (from_rest links k l ls f) c.goes))

  -- and where the rules hold, revisions are made
  pub made_revisions : (k : ℕ) (b : Bool) (old : List State) (ls : List Link) → Oldest k b → Table file links k old → From links k ls →
      ((i : ℕ) (l : Link) → nth i ls ≡ Some l → RevisionHolds file links (k + i) l) → (rs : List Revision) × (revisions file b old ls ≡ Ok rs)
  unfolding revisions nth
  made_revisions k b old [] o t f h = ([], refl)
  made_revisions k b old (l ∷ ls) o t f h =
      let s = from_first links k l ls f in
      let e : k + 0 ≡ k = omega arith in
      let p = holds_made file links neat k old t l s b o (subst (λ (j : ℕ). RevisionHolds file links j l) e (h 0 l refl)) in
      let w =
      made_revisions (suc k) false p.0.states ls refl (made_table file links neat k old t l s b p.0 p.1) (from_rest links k l ls f)
      (λ i x g. let q : k + suc i ≡ suc k + i = omega arith in subst (λ (j : ℕ). RevisionHolds file links j x) q (h (suc i) x g)) in
      (p.0 ∷ w.0, revisions_put file b old l ls p.0 w.0 (passed_revision file b old l p.0 p.1) w.1)

  pub from_start : From links 0 links
  from_start i = let e : i ≡ 0 + i = omega arith in ap (λ (x : ℕ). nth x links) e

  pub all_made : (rs : List Revision) → revisions file true [] links ≡ Ok rs → Made file links 0 links rs
  all_made rs h = revisions_made 0 true [] links rs refl (no_table file links) from_start h

  pub all_hold : (rs : List Revision) → revisions file true [] links ≡ Ok rs → (k : ℕ) (l : Link) → Stands links k l → RevisionHolds file links k l
  all_hold rs h k l e = let q : 0 + k ≡ k = omega arith in subst (λ (j : ℕ). RevisionHolds file links j l) q ((all_made rs h).holds k l e)

  pub all_show : (rs : List Revision) → revisions file true [] links ≡ Ok rs → (k : ℕ) (l : Link) (r : Revision) → Stands links k l → nth k rs ≡ Some r → Shows file links k l r
  all_show rs h k l r e f = let q : 0 + k ≡ k = omega arith in subst (λ (j : ℕ). Shows file links j l r) q ((all_made rs h).shows k l r e f)

  -- the revisions that the rules describe are those that are made
  pub all_revisions : (rs : List Revision) → ((k : ℕ) (l : Link) → Stands links k l → RevisionHolds file links k l) → length rs ≡ length links →
      ((k : ℕ) (l : Link) (r : Revision) → Stands links k l → nth k rs ≡ Some r → Shows file links k l r) → revisions file true [] links ≡ Ok rs
  all_revisions rs h n s =
      let w = made_revisions 0 true [] links refl (no_table file links) from_start (λ i l e. let q : i ≡ 0 + i = omega arith in subst (λ (j : ℕ). RevisionHolds file links j l) q (h i l e)) in
      let m = all_made w.0 w.1 in
      w.1 ∙ ap Ok (same_lists w.0 rs (m.count ∙ sym n) (λ k x y e f. same k x y e f m))
    where
      same : {ws : List Revision} (k : ℕ) (x y : Revision) → nth k ws ≡ Some x → nth k rs ≡ Some y → Made file links 0 links ws → x ≡ y
      same {ws} k x y e f m =
          let a : k < length ws = nth_below k ws x e in
          let b = m.count in
          let l = nth_within k links (omega arith) in
          let q : 0 + k ≡ k = omega arith in
          shows_once file links neat k l.0 x y (subst (λ (j : ℕ). Shows file links j l.0 x) q (m.shows k l.0 x l.1 e)) (s k l.0 y l.1 f)
