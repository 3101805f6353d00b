-- The address that the server listens on.
use Rattle.std.specs.Prelude.{◌≡◌, ℕ, [], ◌∷◌}
use Rattle.std.specs.declared.net.ip_addr.IpAddr.TheVariants as ips
use Rattle.std.specs.declared.net.ipv4_addr.Ipv4Addr.{Ipv4Addr}
use Rattle.std.specs.declared.net.socket_addr.SocketAddr.{SocketAddr}
use Rattle.std.specs.Net.Addr.{ipv4_octets}
use Rattle.std.specs.Net.Socket.{socket_ip, socket_port}

-- 127.0.0.1 (RFC 1122, 3.2.1.3) and this port: no other machine reaches it
pub record IsLoopback (address : SocketAddr) (port : ℕ) : Type 0 where
  pub ip : Ipv4Addr
  pub is_ip : socket_ip address ≡ ips.V4 ip
  pub octets : ipv4_octets ip ≡ 127 ∷ 0 ∷ 0 ∷ 1 ∷ []
  pub at_port : socket_port address ≡ port
