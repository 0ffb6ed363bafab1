-- One append behind another.
use Rattle.std.proofs.Common.{◌≡◌, ℕ, [], ◌∷◌, ◌++◌, codes, sym, refl, ap, ◌∙◌, append_assoc, append-nil}
use Rattle.format.specs.Bytes.{Bytes}
use Rattle.format.specs.Updates.{Change, body, removed, Update}
use Rattle.format.specs.Writing.{decimal}
use Rattle.scripts.specs.Dots.{dotted}
use Rattle.scripts.specs.Scripts.{change_bytes, print_script}

-- two parts
pub two_parts : (out x y a b z : Bytes) → a ≡ out ++ x → b ≡ a ++ y → z ≡ x ++ y → b ≡ out ++ z
two_parts out x y a b z e f g = f ∙ ap (λ ys. ys ++ y) e ∙ append_assoc out x y ∙ ap (λ ys. out ++ ys) (sym g)

-- three parts
pub three_parts : (out x y z a b c : Bytes) → a ≡ out ++ x → b ≡ a ++ y → c ≡ b ++ z → c ≡ out ++ (x ++ (y ++ z))
three_parts out x y z a b c e f g = g ∙ ap (λ ys. ys ++ z) (f ∙ ap (λ ys. ys ++ y) e) ∙ simp append_assoc

removal_parts : (n : ℕ) → codes "remove " ++ (decimal n ++ (10 ∷ [])) ≡ change_bytes n removed
unfolding change_bytes
removal_parts n = refl

pub add_removal : (out out' : Bytes) (n : ℕ) (c : Change) → removed ≡ c → out' ≡ out ++ (codes "remove " ++ (decimal n ++ (10 ∷ []))) → out' ≡ out ++ change_bytes n c
add_removal out out' n c is e = e ∙ ap (λ ys. out ++ ys) (removal_parts n ∙ ap (change_bytes n) is)

put_parts : (n : ℕ) (b : Bytes) → (codes "put " ++ (decimal n ++ (10 ∷ []))) ++ (dotted b ++ codes "\n.\n") ≡ change_bytes n (body b)
unfolding change_bytes
put_parts n b = simp append_assoc

pub add_put : (out x y out' : Bytes) (n : ℕ) (b : Bytes) (c : Change) → body b ≡ c → x ≡ out ++ (codes "put " ++ (decimal n ++ (10 ∷ []))) → y ≡ x ++ dotted b → out' ≡ y ++ codes "\n.\n" → out' ≡ out ++ change_bytes n c
add_put out x y out' n b c is e f g = three_parts out _ _ _ x y out' e f g ∙ ap (λ ys. out ++ ys) (put_parts n b ∙ ap (change_bytes n) is)

-- one change more is printed
pub printed_more : (r : ℕ × Change) (rs : Update) (out out' whole : Bytes) → out ++ print_script (r ∷ rs) ≡ whole → out' ≡ out ++ change_bytes r.0 r.1 → out' ++ print_script rs ≡ whole
unfolding print_script
printed_more r rs out out' whole was e =
    ap (λ ys. ys ++ print_script rs) e ∙ append_assoc out (change_bytes r.0 r.1) (print_script rs) ∙ was

-- all is printed
pub printed_all : (out whole : Bytes) → out ++ print_script [] ≡ whole → out ≡ whole
unfolding print_script
printed_all out whole was = sym (append-nil out) ∙ was
