-- Words of scope, of filters and of forms of destinations.
use Rattle.std.proofs.Common.{◌≡◌, true, false, List, ℕ, refl, inl, inr}
use Rattle.std.specs.Prelude.{codes}
use Rattle.std.specs.Str.{bytes_eq}
use Rattle.std.proofs.lemmas.Bool.{cases_Bool}
use Rattle.std.proofs.lemmas.Slice.Eq.{bytes_eq-Decides}
use Rattle.tipc_types.specs.declared.services.Scope.{Scope}
use Rattle.tipc_types.specs.declared.services.Scope.TheVariants.{Zone, Cluster, Node}
use Rattle.tipc_script.specs.declared.lines.Filter.{Filter}
use Rattle.tipc_script.specs.declared.lines.Filter.TheVariants.{Ports, Service}
use Rattle.tipc_script.specs.declared.lines.SendForm.{SendForm}
use Rattle.tipc_script.specs.declared.lines.SendForm.TheVariants as form
use Rattle.tipc_script.specs.Kinds.{filter_in, filter_of, form_in, form_of, is_filter, is_form, is_scope, scope_in, scope_of}
use Rattle.tipc_script.specs.Spelling.{filter_word, form_word, scope_word}
use Rattle.tipc_script.proofs.Spaces.{has_no_space}

is_the_word : (token word : List ℕ) → bytes_eq token word ≡ true → token ≡ word
is_the_word token word e = (bytes_eq-Decides token word).0 e

-- a word of scope is that of the scope that it stands for
pub scope_spelled : (token : List ℕ) → is_scope token ≡ true → token ≡ scope_word (scope_of token)
unfolding scope_in
scope_spelled token e =
    elim (cases_Bool (bytes_eq token (codes "zone"))) [
      | inl zone ↦ rw zone (is_the_word token (codes "zone") zone)
      | inr not_zone ↦
          elim (cases_Bool (bytes_eq token (codes "cluster"))) [
            | inl cluster ↦ rw (not_zone, cluster) (is_the_word token (codes "cluster") cluster)
            | inr not_cluster ↦
                elim (cases_Bool (bytes_eq token (codes "node"))) [
                  | inl node ↦ rw (not_zone, not_cluster, node) (is_the_word token (codes "node") node)
                  | inr not_node ↦ absurd (let f : is_scope token ≡ false = rw (not_zone, not_cluster, not_node) refl in cc)
                ]
          ]
    ]

pub is_scope-word : (scope : Scope) → is_scope (scope_word scope) ≡ true
unfolding scope_in
is_scope-word Zone = refl
is_scope-word Cluster = refl
is_scope-word Node = refl

pub scope_of-word : (scope : Scope) → scope_of (scope_word scope) ≡ scope
unfolding scope_in
scope_of-word Zone = refl
scope_of-word Cluster = refl
scope_of-word Node = refl

pub no_space-scope : (scope : Scope) → has_no_space (scope_word scope) ≡ true
no_space-scope Zone = refl
no_space-scope Cluster = refl
no_space-scope Node = refl

-- a word of a filter is that of the filter that it stands for
pub filter_spelled : (token : List ℕ) → is_filter token ≡ true → token ≡ filter_word (filter_of token)
unfolding filter_in
filter_spelled token e =
    elim (cases_Bool (bytes_eq token (codes "ports"))) [
      | inl ports ↦ rw ports (is_the_word token (codes "ports") ports)
      | inr not_ports ↦
          elim (cases_Bool (bytes_eq token (codes "service"))) [
            | inl service ↦ rw (not_ports, service) (is_the_word token (codes "service") service)
            | inr not_service ↦ absurd (let f : is_filter token ≡ false = rw (not_ports, not_service) refl in cc)
          ]
    ]

pub is_filter-word : (filter : Filter) → is_filter (filter_word filter) ≡ true
unfolding filter_in
is_filter-word Ports = refl
is_filter-word Service = refl

pub filter_of-word : (filter : Filter) → filter_of (filter_word filter) ≡ filter
unfolding filter_in
filter_of-word Ports = refl
filter_of-word Service = refl

pub no_space-filter : (filter : Filter) → has_no_space (filter_word filter) ≡ true
no_space-filter Ports = refl
no_space-filter Service = refl

-- a word of a form is that of the form that it stands for
pub form_spelled : (token : List ℕ) → is_form token ≡ true → token ≡ form_word (form_of token)
unfolding form_in
form_spelled token e =
    elim (cases_Bool (bytes_eq token (codes "name"))) [
      | inl name ↦ rw name (is_the_word token (codes "name") name)
      | inr not_name ↦
          elim (cases_Bool (bytes_eq token (codes "port"))) [
            | inl port ↦ rw (not_name, port) (is_the_word token (codes "port") port)
            | inr not_port ↦
                elim (cases_Bool (bytes_eq token (codes "cast"))) [
                  | inl cast ↦ rw (not_name, not_port, cast) (is_the_word token (codes "cast") cast)
                  | inr not_cast ↦ absurd (let f : is_form token ≡ false = rw (not_name, not_port, not_cast) refl in cc)
                ]
          ]
    ]

pub is_form-word : (form : SendForm) → is_form (form_word form) ≡ true
unfolding form_in
is_form-word form.Name = refl
is_form-word form.Port = refl
is_form-word form.Cast = refl

pub form_of-word : (form : SendForm) → form_of (form_word form) ≡ form
unfolding form_in
form_of-word form.Name = refl
form_of-word form.Port = refl
form_of-word form.Cast = refl

pub no_space-form : (form : SendForm) → has_no_space (form_word form) ≡ true
no_space-form form.Name = refl
no_space-form form.Port = refl
no_space-form form.Cast = refl
