-- The report of a certificate is that of each form.
use Rattle.std.proofs.Common.{ℕ, true, List, refl}
use Rattle.linear_law.proofs.Names.{each_map, zip_change}
use Rattle.simplicial_law.specs.Names.{Chain, Cochain}
use Rattle.report_law.specs.{Types.{ComplexBlock, CartanAnswer, Yes, No, ComplexPart, Form}, Names.{IsAnswer, IsColumn, FormsLaw, IsComplexPart}}
use Rattle.report.specs.Names.{has_details, has_tables}

module _ (form : Form) where
  of-column : (facets : List (List ℕ)) (n p : ℕ) (zs : List Cochain) (z : Cochain) (values : List ℕ) (primitive : Chain) → IsColumn true facets n p zs z values primitive → IsColumn (has_details form) facets n p zs z values primitive
  of-column facets n p zs z values primitive h = record { coordinates = h.coordinates; rest = λ t. h.rest refl }

  of-answer : (facets : List (List ℕ)) (n p : ℕ) (classes : List Chain) (d : Cochain) (answer : CartanAnswer) → IsAnswer true facets n p classes d answer → IsAnswer (has_details form) facets n p classes d answer
  of-answer facets n p classes d (Yes primitive) h = (h.0, λ t. h.1 refl)
  of-answer facets n p classes d (No value cycle) h = record { values = h.values; coordinates = h.coordinates; place = h.place; first = h.first; cycle_of = λ t. h.cycle_of refl }

  of-complex : (p : ℕ) (block : ComplexBlock) (c : ComplexPart) → IsComplexPart true true p block c → IsComplexPart (has_tables form) (has_details form) p block c
  of-complex p block c h =
      let k = h.tables refl in
      record {
        name = h.name;
        classes = h.classes;
        tables = λ t. record {
          products = k.products;
          product_parts = each_map (λ x b. record { numbers = b.numbers; block = zip_change _ _ (λ z y a. of-column _ _ _ _ _ _ _ a) _ _ b.block }) c.products k.product_parts;
          operations = k.operations;
          operation_parts = each_map (λ o b. zip_change _ _ (λ z y a. record { result = a.result; is_result = a.is_result; is_column = of-column _ _ _ _ _ _ _ a.is_column }) _ _ b) c.operations k.operation_parts;
          cartans = k.cartans;
          cartan_parts = each_map (λ l b. record { difference = b.difference; is_difference = b.is_difference; is_answer = of-answer _ _ _ _ _ _ b.is_answer }) c.cartans k.cartan_parts;
        };
        facets = λ t. h.facets refl;
        below = λ t. h.below refl;
      }

pub forms_law : FormsLaw
forms_law form job report h = record {
  prime = h.prime;
  complexes = zip_change _ _ (λ block c a. of-complex form job.prime block c a) job.complexes report.complexes h.complexes;
  maps = λ t. zip_change _ _
      (λ block m a. record {
        name = a.name;
        from_name = a.from_name;
        to_name = a.to_name;
        sends = λ u. a.sends refl;
        induced = a.induced;
        induced_parts = each_map (λ x b. zip_change _ _ (λ z y c. of-column form _ _ _ _ _ _ _ c) _ _ b) m.induced a.induced_parts;
      })
      job.maps report.maps (h.maps refl);
}
