-- One revision: it is made exactly where its rules hold, and shows what they say.
use Rattle.std.proofs.Common.{◌≡◌, ℕ, zero, suc, Bool, true, false, ◌&&◌, List, length, Ok, Err, sym, refl, ap, ◌∙◌, subst, arith}
use Rattle.std.proofs.lemmas.Bool.{and_parts}
use Rattle.faults.specs.declared.fault.Fault.{Fault}
use Rattle.faults.specs.declared.reason.Reason.TheVariants.{ChainRule}
use Rattle.format.specs.Bytes.{Bytes}
use Rattle.format.specs.Chain.{Answer, also, must, Link}
use Rattle.format.specs.Failures.{chain_fault}
use Rattle.format.specs.Revisions.{State, Revision, highest, size_is, slots_fit, states_of, covered, overlaid, one_from_zero, root_fits, revision}
use Rattle.chains.proofs.Steps.{answered}
use Rattle.tables.proofs.Answered.{err_ok}
use Rattle.tables.proofs.Finds.{true_false}
use Rattle.rules.specs.Sections.{rows}
use Rattle.rules.specs.Tables.{Stands, RevisionHolds, OneFromZero, NewestGives, Shows}
use Rattle.rules.proofs.Entries.{slots_fit_fact, fit_slots, one_from_zero_fact, from_zero_one}
use Rattle.rules.proofs.Lists.{same_lists}
use Rattle.rules.proofs.Newest.{Neat, newest_once}
use Rattle.rules.proofs.Objects.{states_read, read_states, state_once}
use Rattle.rules.proofs.Tables.{Table, size_is_fact, size_fits, fits_size, root_fits_fact, fits_root, table_long, next_table}
use Rattle.rules.proofs.Numbers.{pos_once}

-- the revision that is made of a link, with the states of its entries
abbrev pub made_of : List State → Link → List (ℕ × State) → Revision
made_of old l ts =
    record {
      offset = l.sec.offset;
      end = l.sec.end;
      size = highest (length old) (rows l.sec);
      root = l.says.root;
      root_gen = l.says.root_gen;
      trailer = l.sec.trailer;
      states = overlaid (highest (length old) (rows l.sec)) 0 ts old;
    }

-- the oldest section, or any other
abbrev pub one_test : Bool → Link → Bool
one_test oldest l = elim oldest [ true ↦ one_from_zero l.sec.subsections | false ↦ true ]

abbrev pub size_test : List State → Link → Bool
size_test old l = size_is l.says.size (highest (length old) (rows l.sec)) && covered (highest (length old) (rows l.sec)) 0 (rows l.sec) (length old)

abbrev pub root_test : List State → Link → Bool
root_test old l = root_fits l.says.root l.says.root_gen (rows l.sec) old

-- the tests that a revision passes
pub record Passed (file : Bytes) (oldest : Bool) (old : List State) (l : Link) (r : Revision) : Type 0 where
  pub one : one_test oldest l ≡ true
  pub fit : slots_fit l.sec.offset l.says.size (rows l.sec) ≡ Ok tt
  pub sized : size_test old l ≡ true
  pub rooted : root_test old l ≡ true
  pub read : List (ℕ × State)
  pub reads : states_of file l.sec.offset (rows l.sec) ≡ Ok read
  pub is : r ≡ made_of old l read

unpack : {X : Type 0} (b₁ : Bool) (f₁ : Fault) (x₂ : Answer (Unit {0})) (b₃ : Bool) (f₃ : Fault) (b₄ : Bool) (f₄ : Fault) (x₅ : Answer X) (k : X → Revision) (r : Revision) →
    must b₁ f₁ (λ _. also x₂ (λ _. must b₃ f₃ (λ _. must b₄ f₄ (λ _. also x₅ (λ ts. Ok (k ts)))))) ≡ Ok r →
    (b₁ ≡ true) × (x₂ ≡ Ok tt) × (b₃ ≡ true) × (b₄ ≡ true) × (ts : X) × (x₅ ≡ Ok ts) × (r ≡ k ts)
unpack true f₁ (Ok v) true f₃ true f₄ (Ok ts) k r e = (refl, refl, refl, refl, ts, refl, sym (answered e))
unpack true f₁ (Ok v) true f₃ true f₄ (Err f) k r e = err_ok e
unpack true f₁ (Ok v) true f₃ false f₄ x₅ k r e = err_ok e
unpack true f₁ (Ok v) false f₃ b₄ f₄ x₅ k r e = err_ok e
unpack true f₁ (Err f) b₃ f₃ b₄ f₄ x₅ k r e = err_ok e
unpack false f₁ x₂ b₃ f₃ b₄ f₄ x₅ k r e = err_ok e

pub revision_passed : (file : Bytes) (oldest : Bool) (old : List State) (l : Link) (r : Revision) → revision file oldest old l ≡ Ok r → Passed file oldest old l r
unfolding revision
revision_passed file oldest old l r e =
    let w =
    unpack {X = List (ℕ × State)} (one_test oldest l) (chain_fault ChainRule l.sec.offset 0)
    (slots_fit l.sec.offset l.says.size (rows l.sec))
    (size_test old l)
    (chain_fault ChainRule l.sec.offset 0)
    (root_test old l)
    (chain_fault ChainRule l.sec.offset l.says.root)
    (states_of file l.sec.offset (rows l.sec))
    (made_of old l)
    r e in
    record { one = w.0; fit = w.1; sized = w.2; rooted = w.3; read = w.4; reads = w.5; is = w.6 }

pub passed_revision : (file : Bytes) (oldest : Bool) (old : List State) (l : Link) (r : Revision) → Passed file oldest old l r → revision file oldest old l ≡ Ok r
unfolding revision
passed_revision file oldest old l r p =
    rw p.one (rw p.fit (rw p.sized (rw p.rooted (rw p.reads (ap Ok (sym p.is))))))

-- at place 0 stands the oldest section
abbrev pub Oldest : ℕ → Bool → Type 0
Oldest zero b = b ≡ true
Oldest (suc k) b = b ≡ false

pub one_passed : (k : ℕ) (b : Bool) (l : Link) → Oldest k b → one_test b l ≡ true → k ≡ 0 → OneFromZero l.sec
one_passed zero true l o h q = one_from_zero_fact l.sec h
one_passed zero false l o h q = true_false (sym o)
one_passed (suc k) b l o h q = absurd (omega arith)

pub passed_one : (k : ℕ) (b : Bool) (l : Link) → Oldest k b → (k ≡ 0 → OneFromZero l.sec) → one_test b l ≡ true
passed_one zero true l o f = from_zero_one l.sec (f refl)
passed_one zero false l o f = true_false (sym o)
passed_one (suc k) true l o f = true_false o
passed_one (suc k) false l o f = refl

module _ (file : Bytes) (links : List Link) (neat : Neat links) (k : ℕ) (old : List State) (table : Table file links k old) (l : Link) (stands : Stands links k l) where
  -- the rules hold of a revision that is made
  pub made_holds : (b : Bool) (r : Revision) → Oldest k b → Passed file b old l r → RevisionHolds file links k l
  made_holds b r o p = record {
    oldest = one_passed k b l o p.one;
    entries = slots_fit_fact l.sec.offset l.says.size (rows l.sec) tt p.fit;
    size = size_fits file links neat k old table l stands p.sized;
    root = root_fits_fact file links neat k old table l stands p.rooted;
    objects = states_read file l (rows l.sec) p.read p.reads;
  }

  -- and where the rules hold, one is made
  pub holds_made : (b : Bool) → Oldest k b → RevisionHolds file links k l → (r : Revision) × Passed file b old l r
  holds_made b o h =
      let w = read_states file l (rows l.sec) h.objects in (
        made_of old l w.0,
        record {
          one = passed_one k b l o h.oldest;
          fit = fit_slots l.sec.offset l.says.size (rows l.sec) h.entries;
          sized = fits_size file links neat k old table l stands h.size;
          rooted = fits_root file links neat k old table l stands h.root;
          read = w.0;
          reads = w.1;
          is = refl;
        },
      )

  covers : (b : Bool) (r : Revision) → Passed file b old l r → covered (highest (length old) (rows l.sec)) 0 (rows l.sec) (length old) ≡ true
  covers b r p = (and_parts (size_is l.says.size (highest (length old) (rows l.sec))) (covered (highest (length old) (rows l.sec)) 0 (rows l.sec) (length old)) p.sized).1

  -- it leaves the next table
  pub made_table : (b : Bool) (r : Revision) → Passed file b old l r → Table file links (suc k) r.states
  made_table b r p =
      subst (λ (x : Revision). Table file links (suc k) x.states) (sym p.is) (next_table file links neat k old table l stands (covers b r p) p.read p.reads)

  -- and shows what the rules say
  pub made_shows : (b : Bool) (r : Revision) → Passed file b old l r → Shows file links k l r
  made_shows b r p =
      let t = next_table file links neat k old table l stands (covers b r p) p.read p.reads in
      subst (λ (x : Revision). Shows file links k l x) (sym p.is)
      (record {
        offset = refl;
        end = refl;
        size = size_is_fact l.says.size (highest (length old) (rows l.sec)) (and_parts (size_is l.says.size (highest (length old) (rows l.sec))) (covered (highest (length old) (rows l.sec)) 0 (rows l.sec) (length old)) p.sized).0;
        root = refl;
        root_gen = refl;
        trailer = refl;
        long = table_long file links neat k old table l stands (covers b r p) p.read p.reads;
        states = t.states;
      })

-- a link shows one revision
pub shows_once : (file : Bytes) (links : List Link) (neat : Neat links) (k : ℕ) (l : Link) (q r : Revision) → Shows file links k l q → Shows file links k l r → q ≡ r
shows_once file links neat k l q r a b =
    let z : q.size ≡ r.size = pos_once (sym a.size ∙ b.size) in
    let s : q.states ≡ r.states =
    same_lists q.states r.states (a.long ∙ z ∙ sym b.long)
    (λ n x y e f. same n x y (a.states n x e) (b.states n y f)) in
    λ i. record {
      offset = (a.offset ∙ sym b.offset) i;
      end = (a.end ∙ sym b.end) i;
      size = z i;
      root = (a.root ∙ sym b.root) i;
      root_gen = (a.root_gen ∙ sym b.root_gen) i;
      trailer = (a.trailer ∙ sym b.trailer) i;
      states = s i;
    }
  where
    same : (n : ℕ) (x y : State) → NewestGives file links (suc k) n x → NewestGives file links (suc k) n y → x ≡ y
    same n x y g h =
        let w = newest_once links (suc k) n neat g.link h.link g.entry h.entry g.newest h.newest in
        state_once file h.link n h.entry x y (rw (w.0, w.1) at g.gives) h.gives
