-- Items by their numbers in the lists of sites.
use Rattle.std.proofs.Common.{◌≡◌, ℕ, zero, suc, ◌++◌, List, [], ◌∷◌, Option, Some, None, refl, ap, sym}
use Rattle.std.specs.Prelude.{slice_get}
use Rattle.c_base.specs.declared.place.Pos.{Pos}
use Rattle.c_tables.specs.Tables.{StructShape}
use Rattle.c_walk.specs.Items.{Direct, Outcomes, labels, Item, block, decision, def, used}
use Rattle.c_walk.specs.Counted.{def_count, use_count}
use Rattle.c_walk.specs.Sound.{decision_count}
use Rattle.c_sites.specs.Names.{LeafName}
use Rattle.c_sites.specs.Kinds.{decisions, DefSite, def_site, defs, UseSite, use_site, uses}

none_site : (s : DefSite) → None ≡ Some s → ⊥
none_site s e = cc

some_site : (x y : DefSite) → Some x ≡ Some y → x ≡ y
some_site x y e = cc

none_used : (s : UseSite) → None ≡ Some s → ⊥
none_used s e = cc

some_used : (x y : UseSite) → Some x ≡ Some y → x ≡ y
some_used x y e = cc

-- ---- in the lists of sites

pub decision_listed : (pre : List Item) (p : Pos) (o : Outcomes) (rest : List Item) → slice_get (decisions (pre ++ decision p o ∷ rest)) (decision_count pre) ≡ Some (record { pos = p; labels = labels o })
decision_listed [] p o rest = refl
decision_listed (block q ∷ pre) p o rest = decision_listed pre p o rest
decision_listed (decision q w ∷ pre) p o rest = decision_listed pre p o rest
decision_listed (def q g c ∷ pre) p o rest = decision_listed pre p o rest
decision_listed (used q g c j ∷ pre) p o rest = decision_listed pre p o rest

module _ (ns : List LeafName) (rows : List StructShape) where
  pub def_listed : (pre : List Item) (p : Pos) (f : ℕ) (o : Option Direct) (rest : List Item) → slice_get (defs ns rows (pre ++ def p f o ∷ rest)) (def_count pre) ≡ Some (def_site ns rows p f o)
  def_listed [] p f o rest = refl
  def_listed (block q ∷ pre) p f o rest = def_listed pre p f o rest
  def_listed (decision q w ∷ pre) p f o rest = def_listed pre p f o rest
  def_listed (def q g c ∷ pre) p f o rest = def_listed pre p f o rest
  def_listed (used q g c j ∷ pre) p f o rest = def_listed pre p f o rest

  pub use_listed : (pre : List Item) (p : Pos) (f : ℕ) (o : Option Direct) (k : Option ℕ) (rest : List Item) → slice_get (uses ns rows (pre ++ used p f o k ∷ rest)) (use_count pre) ≡ Some (use_site ns rows p f o k)
  use_listed [] p f o k rest = refl
  use_listed (block q ∷ pre) p f o k rest = use_listed pre p f o k rest
  use_listed (decision q w ∷ pre) p f o k rest = use_listed pre p f o k rest
  use_listed (def q g c ∷ pre) p f o k rest = use_listed pre p f o k rest
  use_listed (used q g c j ∷ pre) p f o k rest = use_listed pre p f o k rest

  -- a definition of the list is one of an item
  pub record Site (is : List Item) (k : ℕ) (s : DefSite) : Type 0 where
    pub direct : Option Direct
    pub pre : List Item
    pub place : Pos
    pub function : ℕ
    pub rest : List Item
    pub cut : is ≡ pre ++ def place function direct ∷ rest
    pub number : k ≡ def_count pre
    pub site : s ≡ def_site ns rows place function direct

  pub site_back : (is : List Item) (k : ℕ) (s : DefSite) → slice_get (defs ns rows is) k ≡ Some s → Site is k s
  site_back [] k s e = absurd (none_site s e)
  site_back (block p ∷ is) k s e = let a = site_back is k s e in record { direct = a.direct; pre = block p ∷ a.pre; place = a.place; function = a.function; rest = a.rest; cut = ap (λ l. block p ∷ l) a.cut; number = a.number; site = a.site }
  site_back (decision p o ∷ is) k s e = let a = site_back is k s e in record { direct = a.direct; pre = decision p o ∷ a.pre; place = a.place; function = a.function; rest = a.rest; cut = ap (λ l. decision p o ∷ l) a.cut; number = a.number; site = a.site }
  site_back (used p f d j ∷ is) k s e = let a = site_back is k s e in record { direct = a.direct; pre = used p f d j ∷ a.pre; place = a.place; function = a.function; rest = a.rest; cut = ap (λ l. used p f d j ∷ l) a.cut; number = a.number; site = a.site }
  site_back (def p f d ∷ is) zero s e = record { direct = d; pre = []; place = p; function = f; rest = is; cut = refl; number = refl; site = sym (some_site (def_site ns rows p f d) s e) }
  site_back (def p f d ∷ is) (suc k) s e = let a = site_back is k s e in record { direct = a.direct; pre = def p f d ∷ a.pre; place = a.place; function = a.function; rest = a.rest; cut = ap (λ l. def p f d ∷ l) a.cut; number = ap suc a.number; site = a.site }

  pub record UsedSite (is : List Item) (k : ℕ) (s : UseSite) : Type 0 where
    pub direct : Option Direct
    pub pre : List Item
    pub place : Pos
    pub function : ℕ
    pub owner : Option ℕ
    pub rest : List Item
    pub cut : is ≡ pre ++ used place function direct owner ∷ rest
    pub number : k ≡ use_count pre
    pub site : s ≡ use_site ns rows place function direct owner

  pub use_back : (is : List Item) (k : ℕ) (s : UseSite) → slice_get (uses ns rows is) k ≡ Some s → UsedSite is k s
  use_back [] k s e = absurd (none_used s e)
  use_back (block p ∷ is) k s e = let a = use_back is k s e in record { direct = a.direct; pre = block p ∷ a.pre; place = a.place; function = a.function; owner = a.owner; rest = a.rest; cut = ap (λ l. block p ∷ l) a.cut; number = a.number; site = a.site }
  use_back (decision p o ∷ is) k s e = let a = use_back is k s e in record { direct = a.direct; pre = decision p o ∷ a.pre; place = a.place; function = a.function; owner = a.owner; rest = a.rest; cut = ap (λ l. decision p o ∷ l) a.cut; number = a.number; site = a.site }
  use_back (def p f d ∷ is) k s e = let a = use_back is k s e in record { direct = a.direct; pre = def p f d ∷ a.pre; place = a.place; function = a.function; owner = a.owner; rest = a.rest; cut = ap (λ l. def p f d ∷ l) a.cut; number = a.number; site = a.site }
  use_back (used p f d j ∷ is) zero s e = record { direct = d; pre = []; place = p; function = f; owner = j; rest = is; cut = refl; number = refl; site = sym (some_used (use_site ns rows p f d j) s e) }
  use_back (used p f d j ∷ is) (suc k) s e = let a = use_back is k s e in record { direct = a.direct; pre = used p f d j ∷ a.pre; place = a.place; function = a.function; owner = a.owner; rest = a.rest; cut = ap (λ l. used p f d j ∷ l) a.cut; number = ap suc a.number; site = a.site }
