-- Revisions along their links: what each takes from its link, a list of links in two parts, one link more.
use Rattle.std.proofs.Common.{◌≡◌, ℕ, zero, suc, ◌<◌, ◌≤◌, Bool, true, false, ◌&&◌, List, [], ◌∷◌, ◌++◌, length, Ok, sym, refl, ap, ◌∙◌, subst, arith}
use Rattle.format.specs.Book.{revision_at, newest_or, end_of_revision}
use Rattle.format.specs.Bytes.{Bytes}
use Rattle.format.specs.Chain.{Answer, Link}
use Rattle.format.specs.Sections.{listed}
use Rattle.format.specs.Revisions.{State, Revision, nth, highest, size_is, slots_fit, states_of, covered, one_from_zero, root_fits, overlaid, revision, revisions}
use Rattle.chains.specs.Stated.{Ascending}
use Rattle.chains.proofs.Steps.{by_answer, never_answer, answered}
use Rattle.locality.proofs.Cases.{cases}

-- a revision starts and ends where its section does
abbrev pub Placed : Link → Revision → Type 0
Placed l r = (r.offset ≡ l.sec.offset) × (r.end ≡ l.sec.end)

module _ (file : Bytes) (old : List State) (l : Link) (r : Revision) where
  made : (ts : List (ℕ × State)) →
      ◌≡◌ {A = Answer Revision} (Ok (record { offset = l.sec.offset; end = l.sec.end; size = highest (length old) (listed l.sec.subsections); root = l.says.root; root_gen = l.says.root_gen; trailer = l.sec.trailer; states = overlaid (highest (length old) (listed l.sec.subsections)) 0 ts old })) (Ok r) →
      Placed l r
  made ts e = subst (λ x. Placed l x) (answered e) (refl, refl)

  newer_placed : revision file false old l ≡ Ok r → Placed l r
  unfolding revision
  newer_placed h =
      by_answer (slots_fit l.sec.offset l.says.size (listed l.sec.subsections))
      (λ u b.
      cases (size_is l.says.size (highest (length old) (listed l.sec.subsections)) && covered (highest (length old) (listed l.sec.subsections)) 0 (listed l.sec.subsections) (length old))
      (λ c.
      cases (root_fits l.says.root l.says.root_gen (listed l.sec.subsections) old)
      (λ d.
      by_answer (states_of file l.sec.offset (listed l.sec.subsections))
      (λ ts e. made ts (rw (b, c, d, e) at h))
      (λ f e. never_answer (rw (b, c, d, e) at h)))
      (λ d. never_answer (rw (b, c, d) at h)))
      (λ c. never_answer (rw (b, c) at h)))
      (λ f b. never_answer (rw b at h))

  oldest_placed : revision file true old l ≡ Ok r → Placed l r
  unfolding revision
  oldest_placed h = cases (one_from_zero l.sec.subsections) (λ a. newer_placed (rw a at h)) (λ a. never_answer (rw a at h))

  pub revision_placed : (oldest : Bool) → revision file oldest old l ≡ Ok r → Placed l r
  revision_placed true h = oldest_placed h
  revision_placed false h = newer_placed h

-- revisions along links, one for one
abbrev pub Matched : List Link → List Revision → Type 0
Matched [] [] = Unit {0}
Matched [] (r ∷ rs) = ⊥
Matched (l ∷ ls) [] = ⊥
Matched (l ∷ ls) (r ∷ rs) = Placed l r × Matched ls rs

-- a list of links that has revisions: those of the first link and of the others
pub record Cut (file : Bytes) (oldest : Bool) (old : List State) (l : Link) (ls : List Link) (rs : List Revision) : Type 0 where
  pub first : Revision
  pub others : List Revision
  pub made : revision file oldest old l ≡ Ok first
  pub goes : revisions file false first.states ls ≡ Ok others
  pub is : rs ≡ first ∷ others

pub revisions_cut : (file : Bytes) (oldest : Bool) (old : List State) (l : Link) (ls : List Link) (rs : List Revision) → revisions file oldest old (l ∷ ls) ≡ Ok rs → Cut file oldest old l ls rs
unfolding revisions
revisions_cut file oldest old l ls rs h =
    by_answer (revision file oldest old l)
    (λ r e.
    by_answer (revisions file false r.states ls)
    (λ qs g. record { first = r; others = qs; made = e; goes = g; is = sym (answered (rw (e, g) at h)) })
    (λ f g. never_answer (rw (e, g) at h)))
    (λ f e. never_answer (rw e at h))

pub revisions_put : (file : Bytes) (oldest : Bool) (old : List State) (l : Link) (ls : List Link) (r : Revision) (rs : List Revision) → revision file oldest old l ≡ Ok r → revisions file false r.states ls ≡ Ok rs → revisions file oldest old (l ∷ ls) ≡ Ok (r ∷ rs)
unfolding revisions
revisions_put file oldest old l ls r rs e g = rw e (rw g refl)

pub revisions_matched : (file : Bytes) (oldest : Bool) (old : List State) (ls : List Link) (rs : List Revision) → revisions file oldest old ls ≡ Ok rs → Matched ls rs
unfolding revisions
revisions_matched file oldest old [] rs h = subst (λ x. Matched [] x) (answered h) tt
revisions_matched file oldest old (l ∷ ls) rs h =
    let c = revisions_cut file oldest old l ls rs h in
    subst (λ x. Matched (l ∷ ls) x) (sym c.is) (revision_placed file old l c.first oldest c.made, revisions_matched file false c.first.states ls c.others c.goes)

pub matched_length : (ls : List Link) (rs : List Revision) → Matched ls rs → length rs ≡ length ls
matched_length [] [] m = refl
matched_length [] (r ∷ rs) m = absurd m
matched_length (l ∷ ls) [] m = absurd m
matched_length (l ∷ ls) (r ∷ rs) m = ap suc (matched_length ls rs m.1)

-- where the revision ends that goes with a link
pub matched_end : (xs : List Link) (l : Link) (ys : List Link) (rs : List Revision) → Matched (xs ++ (l ∷ ys)) rs → end_of_revision (suc (length xs)) rs ≡ l.sec.end
unfolding end_of_revision revision_at nth
matched_end [] l ys [] m = absurd m
matched_end [] l ys (r ∷ rs) m = m.0.1
matched_end (x ∷ xs) l ys [] m = absurd m
matched_end (x ∷ xs) l ys (r ∷ rs) m = matched_end xs l ys rs m.1

-- the newest revision goes with the last link
pub matched_newest : (xs : List Link) (l : Link) (q : Revision) (rs : List Revision) → Matched (xs ++ (l ∷ [])) rs → Placed l (newest_or q rs)
unfolding newest_or
matched_newest [] l q [] m = absurd m
matched_newest [] l q (r ∷ []) m = m.0
matched_newest [] l q (r ∷ s ∷ rs) m = absurd m.1
matched_newest (x ∷ xs) l q [] m = absurd m
matched_newest (x ∷ xs) l q (r ∷ rs) m = matched_newest xs l r rs m.1

-- the revisions of the first part of a list of links
pub record Fore (file : Bytes) (oldest : Bool) (old : List State) (xs : List Link) (rs : List Revision) : Type 0 where
  pub fore : List Revision
  pub others : List Revision
  pub made : revisions file oldest old xs ≡ Ok fore
  pub is : rs ≡ fore ++ others

none_made : (file : Bytes) (oldest : Bool) (old : List State) → revisions file oldest old [] ≡ Ok []
unfolding revisions
none_made file oldest old = refl

pub revisions_fore : (file : Bytes) (oldest : Bool) (old : List State) (xs ys : List Link) (rs : List Revision) → revisions file oldest old (xs ++ ys) ≡ Ok rs → Fore file oldest old xs rs
revisions_fore file oldest old [] ys rs h = record { fore = []; others = rs; made = none_made file oldest old; is = refl }
revisions_fore file oldest old (x ∷ xs) ys rs h =
    let c = revisions_cut file oldest old x (xs ++ ys) rs h in
    let f = revisions_fore file false c.first.states xs ys c.others c.goes in
    record {
      fore = c.first ∷ f.fore;
      others = f.others;
      made = revisions_put file oldest old x xs c.first f.fore c.made f.made;
      is = c.is ∙ ap {B = List Revision} (λ qs. c.first ∷ qs) f.is;
    }

-- one link more behind revision p and those of xs
revisions_more : (file : Bytes) (p : Revision) (xs : List Link) (l : Link) (qs : List Revision) (r : Revision) → revisions file false p.states xs ≡ Ok qs → revision file false (newest_or p qs).states l ≡ Ok r → revisions file false p.states (xs ++ (l ∷ [])) ≡ Ok (qs ++ (r ∷ []))
unfolding revisions newest_or
revisions_more file p [] l qs r h m =
    let e : [] ≡ qs = answered h in
    subst (λ z. revision file false (newest_or p z).states l ≡ Ok r → revisions file false p.states (l ∷ []) ≡ Ok (z ++ (r ∷ []))) e (λ g. revisions_put file false p.states l [] r [] g refl) m
revisions_more file p (x ∷ xs) l qs r h m =
    let c = revisions_cut file false p.states x xs qs h in
    let g : revision file false (newest_or c.first c.others).states l ≡ Ok r = subst (λ z. revision file false (newest_or p z).states l ≡ Ok r) c.is m in
    revisions_put file false p.states x (xs ++ (l ∷ [])) c.first (c.others ++ (r ∷ [])) c.made (revisions_more file c.first xs l c.others r c.goes g)
    ∙ ap (λ z. Ok (z ++ (r ∷ []))) (sym c.is)

revisions_joined : (file : Bytes) (oldest : Bool) (old : List State) (x : Link) (xs : List Link) (l : Link) (q : Revision) (qs : List Revision) (r : Revision) → revisions file oldest old (x ∷ xs) ≡ Ok qs → revision file false (newest_or q qs).states l ≡ Ok r → revisions file oldest old ((x ∷ xs) ++ (l ∷ [])) ≡ Ok (qs ++ (r ∷ []))
unfolding newest_or
revisions_joined file oldest old x xs l q qs r h m =
    let c = revisions_cut file oldest old x xs qs h in
    let g : revision file false (newest_or c.first c.others).states l ≡ Ok r = subst (λ z. revision file false (newest_or q z).states l ≡ Ok r) c.is m in
    revisions_put file oldest old x (xs ++ (l ∷ [])) c.first (c.others ++ (r ∷ [])) c.made (revisions_more file c.first xs l c.others r c.goes g)
    ∙ ap (λ z. Ok (z ++ (r ∷ []))) (sym c.is)

-- one link more behind those of a list that is not empty
pub revisions_join : (file : Bytes) (oldest : Bool) (old : List State) (xs : List Link) (l : Link) (q : Revision) (qs : List Revision) (r : Revision) → 1 ≤ length xs → revisions file oldest old xs ≡ Ok qs → revision file false (newest_or q qs).states l ≡ Ok r → revisions file oldest old (xs ++ (l ∷ [])) ≡ Ok (qs ++ (r ∷ []))
revisions_join file oldest old [] l q qs r n h m = absurd (omega arith)
revisions_join file oldest old (x ∷ xs) l q qs r n h m = revisions_joined file oldest old x xs l q qs r h m

-- sections ascend, from `low` on
abbrev pub LinksAscend : ℕ → List Link → Type 0
LinksAscend low [] = Unit {0}
LinksAscend low (l ∷ ls) = (low ≤ l.sec.offset) × (l.sec.offset < l.sec.end) × LinksAscend l.sec.end ls

pub matched_ascend : (low : ℕ) (ls : List Link) (rs : List Revision) → Matched ls rs → LinksAscend low ls → Ascending low rs
matched_ascend low [] [] m a = tt
matched_ascend low [] (r ∷ rs) m a = absurd m
matched_ascend low (l ∷ ls) [] m a = absurd m
matched_ascend low (l ∷ ls) (r ∷ rs) m a =
    let o = m.0.0 in
    let e = m.0.1 in
    (rw o a.0, rw (o, e) a.1, matched_ascend r.end ls rs m.1 (rw e a.2))

-- a revision ends behind `low`
pub end_above : (low : ℕ) (rs : List Revision) (i : ℕ) → Ascending low rs → i < length rs → low < end_of_revision (suc i) rs
unfolding end_of_revision revision_at nth
end_above low [] i a h = absurd (omega arith)
end_above low (r ∷ rs) zero a h = let u = a.0 in let v = a.1 in omega arith
end_above low (r ∷ rs) (suc i) a h = let u = a.0 in let v = a.1 in let w = end_above r.end rs i a.2 (omega arith) in omega arith

-- a later revision ends later
pub ends_rise : (low : ℕ) (rs : List Revision) (i j : ℕ) → Ascending low rs → i < j → j < length rs → end_of_revision (suc i) rs < end_of_revision (suc j) rs
unfolding end_of_revision revision_at nth
ends_rise low [] i j a h k = absurd (omega arith)
ends_rise low (r ∷ rs) i zero a h k = absurd (omega arith)
ends_rise low (r ∷ rs) zero (suc j) a h k = end_above r.end rs j a.2 (omega arith)
ends_rise low (r ∷ rs) (suc i) (suc j) a h k = ends_rise r.end rs i j a.2 (omega arith) (omega arith)

-- there is no end past the list
pub end_past : (rs : List Revision) (i : ℕ) → length rs ≤ i → end_of_revision (suc i) rs ≡ 0
unfolding end_of_revision revision_at nth
end_past [] i h = refl
end_past (r ∷ rs) zero h = absurd (omega arith)
end_past (r ∷ rs) (suc i) h = end_past rs i (omega arith)
