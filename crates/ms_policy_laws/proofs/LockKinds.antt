-- Kinds of locks that are met together.
use Rattle.std.proofs.Common.{◌≡◌, Bool, true, false, ◌||◌, Option, Some, None, arith}
use Rattle.std.specs.Bool.{⊤}
use Rattle.std.specs.List.{list_any}
use Rattle.std.proofs.lemmas.Bool.{false≢true, or_parts}
use Rattle.def_tree.specs.Tree.{Trees, none, more}
use Rattle.def_sane.specs.Locks.{Kinds, union, conflict, kinds, kinds_of_all, kinds_of_each}

-- a kind that is wanted, or none: a time is true, and a height false
abbrev pub Fits : Option Bool → Bool → Type 0
Fits None b = ⊤
Fits (Some x) b = b ≡ x

abbrev pub first_of_two : Option Bool → Option Bool → Option Bool
first_of_two None d = d
first_of_two (Some x) d = Some x

-- what is wanted is among what there is
abbrev pub Used : Option Bool → (time height : Bool) → Type 0
Used None time height = ⊤
Used (Some true) time height = time ≡ true
Used (Some false) time height = height ≡ true

used_wider : (c : Option Bool) (t h t' h' : Bool) → (t ≡ true → t' ≡ true) → (h ≡ true → h' ≡ true) → Used c t h → Used c t' h'
used_wider c t h t' h' f g u = grind arith

used_both : (c d : Option Bool) (t h t' h' : Bool) → Used c t h → Used d t' h' → Used (first_of_two c d) (t || t') (h || h')
used_both c d t h t' h' u v = grind arith

fits_first : (c d : Option Bool) (b : Bool) → Fits (first_of_two c d) b → Fits c b
fits_first c d b f = grind arith

-- none of one is a time where the other has a height, nor the other way round
fits_second : (c d : Option Bool) (b t h t' h' : Bool) → Used c t h → Used d t' h' → (t ≡ true → h' ≡ true → ⊥) → (h ≡ true → t' ≡ true → ⊥) → Fits (first_of_two c d) b → Fits d b
fits_second c d b t h t' h' u v one two f = grind arith

-- the kinds of one are among those of the other
pub record Below (a b : Kinds) : Type 0 where
  pub rt : a.relative_time ≡ true → b.relative_time ≡ true
  pub rh : a.relative_height ≡ true → b.relative_height ≡ true
  pub at : a.absolute_time ≡ true → b.absolute_time ≡ true
  pub ah : a.absolute_height ≡ true → b.absolute_height ≡ true

pub below_left : (a b : Kinds) → Below a (union a b)
below_left a b = grind arith

pub below_right : (a b : Kinds) → Below b (union a b)
below_right a b = grind arith

pub below_first_two : (a b c : Kinds) → Below (union a b) (union a (union b c))
below_first_two a b c = grind arith

pub below_last : (a b c : Kinds) → Below c (union a (union b c))
below_last a b c = grind arith

-- no conflict, kind by kind
pub record Agree (a b : Kinds) : Type 0 where
  pub rt : a.relative_time ≡ true → b.relative_height ≡ true → ⊥
  pub rh : a.relative_height ≡ true → b.relative_time ≡ true → ⊥
  pub at : a.absolute_time ≡ true → b.absolute_height ≡ true → ⊥
  pub ah : a.absolute_height ≡ true → b.absolute_time ≡ true → ⊥

pub agree : (a b : Kinds) → conflict a b ≡ false → Agree a b
agree a b e = grind arith

agree_more : (a b c : Kinds) → Agree a b → Agree a c → Agree a (union b c)
agree_more a b c h t = grind arith

-- with none of these, so not with all
pub agree_all : (a : Kinds) (xs : Trees) → list_any (conflict a) (kinds_of_each xs) ≡ false → Agree a (kinds_of_all xs)
agree_all a none e = record { rt = λ f g. false≢true g; rh = λ f g. false≢true g; at = λ f g. false≢true g; ah = λ f g. false≢true g }
agree_all a (more x xs) e =
    let p = or_parts (conflict a (kinds x)) (list_any (conflict a) (kinds_of_each xs)) e in
    agree_more a (kinds x) (kinds_of_all xs) (agree a (kinds x) p.0) (agree_all a xs p.1)

-- kinds of a set that are wanted, under which something holds
pub record Chosen (k : Kinds) (P : (relative absolute : Bool) → Type 0) : Type 0 where
  pub r : Option Bool
  pub a : Option Bool
  pub r_used : Used r k.relative_time k.relative_height
  pub a_used : Used a k.absolute_time k.absolute_height
  pub holds : (x y : Bool) → Fits r x → Fits a y → P x y

pub chosen_none : (k : Kinds) (P : (relative absolute : Bool) → Type 0) → ((x y : Bool) → P x y) → Chosen k P
chosen_none k P h = record { r = None; a = None; r_used = tt; a_used = tt; holds = λ x y f g. h x y }

pub chosen_wider : (k l : Kinds) (P Q : (relative absolute : Bool) → Type 0) → Below k l → ((x y : Bool) → P x y → Q x y) → Chosen k P → Chosen l Q
chosen_wider k l P Q b f c = record {
  r = c.r;
  a = c.a;
  r_used = used_wider c.r _ _ _ _ b.rt b.rh c.r_used;
  a_used = used_wider c.a _ _ _ _ b.at b.ah c.a_used;
  holds = λ x y g h. f x y (c.holds x y g h);
}

pub chosen_both : (k l : Kinds) (P Q R : (relative absolute : Bool) → Type 0) → Agree k l → ((x y : Bool) → P x y → Q x y → R x y) → Chosen k P → Chosen l Q → Chosen (union k l) R
chosen_both k l P Q R b f c d = record {
  r = first_of_two c.r d.r;
  a = first_of_two c.a d.a;
  r_used = used_both c.r d.r _ _ _ _ c.r_used d.r_used;
  a_used = used_both c.a d.a _ _ _ _ c.a_used d.a_used;
  holds = λ x y g h.
      f x y (c.holds x y (fits_first c.r d.r x g) (fits_first c.a d.a y h))
      (d.holds x y (fits_second c.r d.r x _ _ _ _ c.r_used d.r_used b.rt b.rh g) (fits_second c.a d.a y _ _ _ _ c.a_used d.a_used b.at b.ah h));
}
