-- The numbers known after the first sections, and the newest entry of each.
use Rattle.std.proofs.Common.{◌≡◌, ℕ, zero, suc, ◌<◌, ◌≤◌, ◌⊎◌, List, length, Some, None, sym, ap, ◌∙◌, subst, inl, inr, arith}
use Rattle.std.proofs.lemmas.Bool.{cases_eq, cases_order}
use Rattle.format.specs.Chain.{Link}
use Rattle.format.specs.Lines.{Slot}
use Rattle.format.specs.Revisions.{find, nth}
use Rattle.locality.proofs.Cases.{cases_o}
use Rattle.tables.proofs.Finds.{nth_within}
use Rattle.rules.specs.Sections.{rows, Lists}
use Rattle.rules.specs.Tables.{Stands, Known, Newest}
use Rattle.rules.proofs.Lists.{same_place}
use Rattle.rules.proofs.Rows.{Rising, listed_found, found_listed, unfound_unlisted}

-- the rows of every section ascend
abbrev pub Neat : List Link → Type 0
Neat links = (k : ℕ) (l : Link) → Stands links k l → Rising 0 (rows l.sec)

-- a section does not list the number
abbrev pub Unlisted : Link → ℕ → Type 0
Unlisted l n = (e : Slot) → Lists l.sec n e → ⊥

-- two sections at one place are one
pub one_there : (links : List Link) (i j : ℕ) (l m : Link) → i ≡ j → Stands links i l → Stands links j m → l ≡ m
one_there links i j l m q a b = same_place (sym a ∙ ap (λ (x : ℕ). nth x links) q ∙ b)

-- what one section lists is found there
pub lists_found : (l : Link) (n : ℕ) (e : Slot) → Rising 0 (rows l.sec) → Lists l.sec n e → find n (rows l.sec) ≡ Some e
lists_found l n e r w = listed_found 0 (rows l.sec) r w.0 n e w.1

pub unfound : (l : Link) (n : ℕ) → find n (rows l.sec) ≡ None → Unlisted l n
unfound l n f e w = unfound_unlisted (rows l.sec) n f w.0 e w.1

-- it lists the number, or it does not
pub by_listed : {P : Type 0} (l : Link) (n : ℕ) → ((e : Slot) → find n (rows l.sec) ≡ Some e → Lists l.sec n e → P) → (find n (rows l.sec) ≡ None → Unlisted l n → P) → P
by_listed l n f g = cases_o (find n (rows l.sec)) (λ q. g q (unfound l n q)) (λ e q. f e q (found_listed (rows l.sec) n e q))

pub known_more : (links : List Link) (k n : ℕ) → Known links k n → Known links (suc k) n
known_more links k n a = record { place = a.place; early = let h = a.early in omega arith; link = a.link; stands = a.stands; entry = a.entry; lists = a.lists }

pub known_here : (links : List Link) (k n : ℕ) (l : Link) (e : Slot) → Stands links k l → Lists l.sec n e → Known links (suc k) n
known_here links k n l e s w = record { place = k; early = omega arith; link = l; stands = s; entry = e; lists = w }

pub known_cases : (links : List Link) (k n : ℕ) (l : Link) → Stands links k l → Known links (suc k) n → Known links k n ⊎ ((e : Slot) × Lists l.sec n e)
known_cases links k n l s a = go (cases_eq a.place k)
  where
    go : (a.place ≡ k) ⊎ (a.place ≡ k → ⊥) → Known links k n ⊎ ((e : Slot) × Lists l.sec n e)
    go (inl q) =
        let u : a.link ≡ l = one_there links a.place k a.link l q a.stands s in
        inr (a.entry, subst (λ (x : Link). Lists x.sec n a.entry) u a.lists)
    go (inr q) =
        inl (record { place = a.place; early = let h = a.early in omega arith; link = a.link; stands = a.stands; entry = a.entry; lists = a.lists })

pub newest_known : (links : List Link) (k n : ℕ) (l : Link) (e : Slot) → Newest links k n l e → Known links k n
newest_known links k n l e a = record { place = a.place; early = a.early; link = l; stands = a.stands; entry = e; lists = a.lists }

pub newest_here : (links : List Link) (k n : ℕ) (l : Link) (e : Slot) → Stands links k l → Lists l.sec n e → Newest links (suc k) n l e
newest_here links k n l e s w = record { place = k; early = omega arith; stands = s; lists = w; since = λ i m a b c d f. absurd (omega arith) }

pub newest_more : (links : List Link) (k n : ℕ) (l m : Link) (e : Slot) → Stands links k l → Unlisted l n → Newest links k n m e → Newest links (suc k) n m e
newest_more links k n l m e s u a = record {
  place = a.place;
  early = let h = a.early in omega arith;
  stands = a.stands;
  lists = a.lists;
  since = λ i x b c d f w. later i x b c d f w (cases_eq i k);
}
  where
    later : (i : ℕ) (x : Link) → a.place < i → i < suc k → Stands links i x → (f : Slot) → Lists x.sec n f → (i ≡ k) ⊎ (i ≡ k → ⊥) → ⊥
    later i x b c d f w (inl q) = u f (subst (λ (y : Link). Lists y.sec n f) (one_there links i k x l q d s) w)
    later i x b c d f w (inr q) = a.since i x b (omega arith) d f w

pub newest_cases : (links : List Link) (k n : ℕ) (l m : Link) (e : Slot) → Stands links k l → Newest links (suc k) n m e →
    ((m ≡ l) × Lists l.sec n e) ⊎ (Unlisted l n × Newest links k n m e)
newest_cases links k n l m e s a = go (cases_eq a.place k)
  where
    go : (a.place ≡ k) ⊎ (a.place ≡ k → ⊥) → ((m ≡ l) × Lists l.sec n e) ⊎ (Unlisted l n × Newest links k n m e)
    go (inl q) =
        let u : m ≡ l = one_there links a.place k m l q a.stands s in
        inl (u, subst (λ (x : Link). Lists x.sec n e) u a.lists)
    go (inr q) =
        let h = a.early in
        let b : a.place < k = omega arith in
        inr (
          λ d w. a.since k l b (omega arith) s d w,
          record { place = a.place; early = b; stands = a.stands; lists = a.lists; since = λ i x c d f g w. a.since i x c (omega arith) f g w },
        )

-- a known number has a newest entry
pub record Entered (links : List Link) (k n : ℕ) : Type 0 where
  pub link : Link
  pub entry : Slot
  pub newest : Newest links k n link entry

pub known_entered : (links : List Link) (k n : ℕ) → k ≤ length links → Known links k n → Entered links k n
known_entered links zero n h a = absurd (let e = a.early in omega arith)
known_entered links (suc k) n h a =
    let w = nth_within k links (omega arith) in
    by_listed w.0 n
    (λ e q v. record { link = w.0; entry = e; newest = newest_here links k n w.0 e w.1 v })
    (λ q u. go w u (known_cases links k n w.0 w.1 a) (λ b. known_entered links k n (omega arith) b))
  where
    go : (w : (x : Link) × Stands links k x) → Unlisted w.0 n → Known links k n ⊎ ((e : Slot) × Lists w.0.sec n e) → (Known links k n → Entered links k n) → Entered links (suc k) n
    go w u (inl b) f = let c = f b in record { link = c.link; entry = c.entry; newest = newest_more links k n w.0 c.link c.entry w.1 u c.newest }
    go w u (inr b) f = absurd (u b.0 b.1)

-- there is one newest entry
pub newest_once : (links : List Link) (k n : ℕ) → Neat links → (l m : Link) (e d : Slot) → Newest links k n l e → Newest links k n m d → (l ≡ m) × (e ≡ d)
newest_once links k n neat l m e d a b = go (cases_order a.place b.place)
  where
    go : (a.place ≡ b.place) ⊎ ((a.place < b.place) ⊎ (b.place < a.place)) → (l ≡ m) × (e ≡ d)
    go (inl q) =
        let u : l ≡ m = one_there links a.place b.place l m q a.stands b.stands in
        let x = lists_found m n e (neat b.place m b.stands) (subst (λ (y : Link). Lists y.sec n e) u a.lists) in
        let y = lists_found m n d (neat b.place m b.stands) b.lists in
        (u, same_place (sym x ∙ y))
    go (inr (inl q)) = absurd (a.since b.place m q b.early b.stands d b.lists)
    go (inr (inr q)) = absurd (b.since a.place l q a.early a.stands e a.lists)
